use mathlib.Core.List.{[], ◌∷◌, ◌++◌}
use mathlib.Core.Path.{◌≡◌, ◌∙◌}
use Rattle.lists.proofs.Arrays.{joined-fits}
use Rattle.lists.specs.Lists.{head}
use Rattle.model.specs.Steps.{taken, take_copy}
use Rattle.model.specs.State.{moved, entry, without}
use Rattle.fifo.specs.View.{list_of}
use Rattle.queue.specs.View.{entries_of}
use Rattle.state.proofs.Bounds.{gc_fits}
use Rattle.state.proofs.State.take_copy.Goals as goal

pub taken-requires : goal.taken-requires
unfolding take_copy moved taken
taken-requires c = let x = c.args in
    let less = without x.b (entries_of x.self.reads) in
    let copy = entry x.b (head (list_of x.self.free)) 0 ∷ [] in
    let f : entries_of c.push-reads.result ≡ less ++ copy =
    c.push-reads.ensures ∙ rw (c.without-others.ensures, c.entry-copy.ensures, c.head.ensures) (joined-fits 64 less copy c.requires.reads) in
    rw (f, c.with_cache-gc.ensures ∙ joined-fits 256 (list_of x.self.gc) _ (gc_fits c.requires)) c.requires

pub returns : goal.returns
unfolding take_copy moved taken
returns c = let x = c.args in
    let less = without x.b (entries_of x.self.reads) in
    let copy = entry x.b (head (list_of x.self.free)) 0 ∷ [] in
    let f : entries_of c.push-reads.result ≡ less ++ copy =
    c.push-reads.ensures ∙ rw (c.without-others.ensures, c.entry-copy.ensures, c.head.ensures) (joined-fits 64 less copy c.requires.reads) in
    c.taken.ensures ∙ rw (f, c.with_cache-gc.ensures ∙ joined-fits 256 (list_of x.self.gc) _ (gc_fits c.requires))

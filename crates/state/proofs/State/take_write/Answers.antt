use mathlib.Core.List.{[], ◌∷◌, ◌++◌}
use mathlib.Core.Path.{◌≡◌, ◌∙◌}
use Rattle.lists.proofs.Arrays.{joined-fits}
use Rattle.lists.specs.Lists.{head}
use Rattle.model.specs.Operations.{take_write}
use Rattle.model.specs.Steps.{taken}
use Rattle.model.specs.State.{moved, entry}
use Rattle.fifo.specs.View.{list_of}
use Rattle.queue.specs.View.{entries_of}
use Rattle.state.proofs.State.take_write.Goals as goal

pub taken-requires : goal.taken-requires
unfolding take_write moved taken
taken-requires c = let x = c.args in
    let f : entries_of c.push-writes.result ≡ entries_of x.self.writes ++ (entry x.b (head (list_of x.self.free)) 0 ∷ []) =
    c.push-writes.ensures ∙ rw (c.entry-arrival.ensures, c.head.ensures) (joined-fits 64 (entries_of x.self.writes) _ c.requires.writes) in
    rw f c.requires

pub returns : goal.returns
unfolding take_write moved taken
returns c = let x = c.args in
    let f : entries_of c.push-writes.result ≡ entries_of x.self.writes ++ (entry x.b (head (list_of x.self.free)) 0 ∷ []) =
    c.push-writes.ensures ∙ rw (c.entry-arrival.ensures, c.head.ensures) (joined-fits 64 (entries_of x.self.writes) _ c.requires.writes) in
    c.taken.ensures ∙ rw f

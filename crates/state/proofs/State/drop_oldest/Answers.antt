use mathlib.Core.Bool.{false}
use mathlib.Core.List.{[], ◌∷◌, map}
use mathlib.Core.Path.{◌∙◌, ap}
use Rattle.lists.proofs.Arrays.{joined-fits}
use Rattle.lists.specs.Arrays.{joined}
use Rattle.model.specs.State.{moved, entry, remarked}
use Rattle.model.specs.declared.Entry.{Entry}
use Rattle.fifo.specs.View.{list_of}
use Rattle.queue.specs.View.{entries_of}
use Rattle.state.proofs.Bounds.{gc_fits}
use Rattle.model.specs.Operations.{without_oldest}
use Rattle.state.proofs.State.drop_oldest.Goals as goal

pub returns : goal.returns
unfolding without_oldest moved entry
returns c = let gc = list_of c.args.self.gc in
    let e = c.first-oldest.ensures in
    let bound = gc_fits c.requires in
    rw (c.rest-reads.ensures, c.mark-writes.ensures ∙ ap (λ (e : Entry). map (remarked e.back false) (entries_of c.args.self.writes)) e, c.push-gc.ensures ∙ (ap (λ (e : Entry). joined 256 gc (e.cache ∷ [])) e ∙ joined-fits 256 gc _ bound))

use mathlib.Core.Path.{◌∙◌}
use Rattle.lists.proofs.Arrays.{joined-fits}
use Rattle.model.specs.Steps.{drop_write}
use Rattle.model.specs.State.{moved}
use Rattle.fifo.specs.View.{list_of}
use Rattle.state.proofs.Bounds.{gc_fits}
use Rattle.state.proofs.State.drop_write.Goals as goal

pub returns : goal.returns
unfolding drop_write moved
returns c = rw (c.without-writes.ensures, c.with_cache-gc.ensures ∙ joined-fits 256 (list_of c.args.self.gc) _ (gc_fits c.requires))

use Rattle.model.specs.State.{moved}
use Rattle.state.proofs.State.drained.Goals as goal

pub returns : goal.returns
unfolding moved
returns c = rw (c.empty-writes.ensures, c.append-gc.ensures)

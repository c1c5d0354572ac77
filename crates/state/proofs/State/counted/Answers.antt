use Rattle.model.specs.State.{moved}
use Rattle.model.specs.Operations.{counted}
use Rattle.state.proofs.State.counted.Goals as goal

pub returns : goal.returns
unfolding counted moved
returns c = rw (c.halved_when_due-writes.ensures, c.next_count-accepted.ensures)

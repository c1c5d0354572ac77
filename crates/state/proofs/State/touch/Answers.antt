use Rattle.model.specs.Operations.{touch}
use Rattle.model.specs.State.{moved}
use Rattle.state.proofs.State.touch.Goals as goal

pub returns : goal.returns
unfolding touch moved
returns c = rw c.most_recent-reads.ensures

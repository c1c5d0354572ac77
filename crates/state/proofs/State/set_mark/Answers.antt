use Rattle.model.specs.Operations.{set_mark}
use Rattle.model.specs.State.{moved}
use Rattle.state.proofs.State.set_mark.Goals as goal

pub returns : goal.returns
unfolding set_mark moved
returns c = rw c.mark-writes.ensures

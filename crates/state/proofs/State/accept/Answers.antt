use mathlib.Core.Path.{◌∙◌}
use Rattle.model.specs.State.{moved}
use Rattle.model.specs.Operations.{accept, recorded}
use Rattle.state.proofs.State.accept.Goals as goal

pub returns : goal.returns
unfolding accept recorded moved
returns c = c.counted.ensures ∙ rw c.prioritise-writes.ensures

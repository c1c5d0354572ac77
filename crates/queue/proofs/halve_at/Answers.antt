use mathlib.Core.Path.{refl}
use Rattle.model.specs.State.{with_priority}
use Rattle.model.specs.Operations.{halved}
use Rattle.queue.proofs.halve_at.Goals as goal

pub returns : goal.returns
unfolding halved with_priority
returns c = refl

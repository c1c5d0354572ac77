use mathlib.Core.Path.{refl}
use Rattle.model.specs.State.{entry}
use Rattle.queue.proofs.entry.Goals as goal

pub returns : goal.returns
unfolding entry
returns c = refl

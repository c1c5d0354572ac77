use Rattle.model.specs.Sizes.{pages_for}
use mathlib.Core.Path.{refl}
use Rattle.geometry.proofs.pages_for.Goals as goal

pub returns : goal.returns
unfolding pages_for
returns c = refl

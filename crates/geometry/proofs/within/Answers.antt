use Rattle.lists.specs.Lists.{within}
use mathlib.Core.Path.{refl}
use Rattle.geometry.proofs.within.Goals as goal

pub returns : goal.returns
unfolding within
returns c = refl

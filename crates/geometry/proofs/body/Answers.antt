use native.Mathlib.Omega.{arith}
use Rattle.model.specs.Sizes.{body}
use Rattle.geometry.proofs.body.Goals as goal

pub returns-then-z-lt2 : goal.returns-then-z-lt2
unfolding body
returns-then-z-lt2 c = omega (arith, c.if-z-lt2.true)

pub returns-else-z-lt2 : goal.returns-else-z-lt2
unfolding body
returns-else-z-lt2 c = omega arith

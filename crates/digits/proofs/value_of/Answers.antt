-- `digits::value_of` meets its contract.
use native.Mathlib.Omega.{arith}
use Rattle.model.proofs.Digits.{digit-below}
use Rattle.digits.proofs.Values.{value_test}
use Rattle.digits.proofs.value_of.Goals as goal

pub overflow_mul-result : goal.overflow_mul-result
overflow_mul-result c = omega (arith, c.well_formed)

pub overflow_add-result : goal.overflow_add-result
overflow_add-result c = omega (arith, c.well_formed)

pub returns : goal.returns
returns c = (value_test c.args.c c.requires, omega (arith, value_test c.args.c c.requires, digit-below c.args.c c.requires))

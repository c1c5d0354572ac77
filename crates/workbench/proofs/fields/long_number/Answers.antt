-- `workbench::fields::long_number` meets its contract.
use native.Mathlib.Omega.{arith}
use Rattle.model.specs.Spare.{two, four}
use Rattle.workbench.proofs.fields.long_number.Goals as goal

pub returns : goal.returns
unfolding two four
returns c = omega (arith, c.number_at-low.ensures.0, c.number_at-high.ensures.0)

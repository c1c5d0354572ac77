-- `workbench::fields::number_at` meets its contract.
use Prim.Native.Nat.{◌+◌}
use native.Mathlib.Omega.{arith}
use lib.ListN.{get_or-eq_default}
use Rattle.model.specs.Spare.{two}
use Rattle.workbench.proofs.fields.number_at.Goals as goal

pub returns-then-at-fields : goal.returns-then-at-fields
unfolding two
returns-then-at-fields c = omega (arith, c.byte_at-low.ensures.0, c.byte_at-high.ensures.0)

pub returns-else-at-fields : goal.returns-else-at-fields
unfolding two
returns-else-at-fields c = let a = c.args in
    omega (arith, get_or-eq_default a.fields.now 0 {n = a.at} (omega arith), get_or-eq_default a.fields.now 0 {n = a.at + 1} (omega arith))

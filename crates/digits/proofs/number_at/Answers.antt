-- `digits::number_at` meets its contract.
use Prim.Native.Nat.{◌+◌}
use native.Mathlib.Omega.{arith}
use Rattle.model.specs.Spare.{two}
use Rattle.model.proofs.Digits.{byte_behind}
use Rattle.digits.proofs.number_at.Goals as goal

pub returns-then-at-line : goal.returns-then-at-line
unfolding two
returns-then-at-line c = rw (c.byte_at-high.ensures, c.byte_at-low.ensures)

pub returns-else-at-line : goal.returns-else-at-line
unfolding two
returns-else-at-line c = rw (byte_behind c.args.line.now c.args.at (omega arith), byte_behind c.args.line.now (c.args.at + 1) (omega arith))

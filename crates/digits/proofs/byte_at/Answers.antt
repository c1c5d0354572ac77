-- `digits::byte_at` meets its contract.
use mathlib.Core.Path.{sym, ◌∙◌}
use native.Mathlib.Omega.{arith}
use Rattle.model.proofs.Digits.{byte_at, byte_behind}
use Rattle.digits.proofs.byte_at.Goals as goal

pub returns-then-at-line : goal.returns-then-at-line
returns-then-at-line c = c.byte_of.ensures ∙ sym (byte_at c.args.line.now c.args.at (omega arith))

pub returns-else-at-line : goal.returns-else-at-line
returns-else-at-line c = sym (byte_behind c.args.line.now c.args.at (omega arith))

-- `workbench::bench::page_size` meets its contract.
use mathlib.Core.Path.{refl, sym, ◌∙◌}
use mathlib.Core.Bool.{true≢false}
use native.Mathlib.Omega.{arith}
use Rattle.workbench.proofs.bench.page_size.Goals as goal

pub returns-then-formatted : goal.returns-then-formatted
returns-then-formatted c = (omega (arith, (c.requires c.if-formatted.true).limits.s_high), λ _. refl)

pub returns-else-formatted : goal.returns-else-formatted
returns-else-formatted c = (omega arith, λ e. absurd (true≢false (sym e ∙ c.if-formatted.false)))

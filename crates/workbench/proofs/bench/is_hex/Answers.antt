-- `workbench::bench::is_hex` meets its contract.
use Prim.Native.Nat.{◌%◌}
use mathlib.Core.Path.{sym, ◌∙◌}
use mathlib.Core.Bool.{true≢false}
use native.Mathlib.Omega.{arith}
use borrow.Author.Tests.{eqb-true}
use lib.ListN.{length}
use Rattle.lists.proofs.Tests.{and_left, and_right}
use Rattle.workbench.proofs.bench.is_hex.Goals as goal

pub returns-then-count-eq0 : goal.returns-then-count-eq0
returns-then-count-eq0 c = λ e. absurd (true≢false (sym e))

pub returns-then-count-gt-LONGEST : goal.returns-then-count-gt-LONGEST
returns-then-count-gt-LONGEST c = λ e. absurd (true≢false (sym e))

pub returns : goal.returns
returns c = λ e. record {
  digits = sym c.all_digits.ensures ∙ and_left c.all_digits.result _ e;
  short = omega arith;
  some = omega (arith, c.if-count-eq0.false, eqb-true (length c.args.line.now % 2) 0 (and_right c.all_digits.result _ e));
}

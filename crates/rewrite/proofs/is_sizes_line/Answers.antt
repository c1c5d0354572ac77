use mathlib.Core.Path.{sym, ◌∙◌}
use native.Mathlib.Omega.{arith}
use lib.Seq.{length-take-le}
use Rattle.rewrite.proofs.First.{too_short, no_digits, ended, fed}
use Rattle.rewrite.proofs.is_sizes_line.Goals as goal

pub returns-then-input-lt-DIGITS : goal.returns-then-input-lt-DIGITS
returns-then-input-lt-DIGITS c = sym (too_short c.args.input.now c.if-input-lt-DIGITS.true)

pub slice_bounds-all_digits-end : goal.slice_bounds-all_digits-end
slice_bounds-all_digits-end c = sym (length-take-le 18 c.args.input.now (omega arith))

pub returns-then-not-all_digits : goal.returns-then-not-all_digits
returns-then-not-all_digits c = sym (no_digits c.args.input.now (omega arith) (sym c.all_digits.ensures ∙ c.if-not-all_digits.true))

pub returns-then-input-eq-DIGITS : goal.returns-then-input-eq-DIGITS
returns-then-input-eq-DIGITS c = sym (ended c.args.input.now (omega arith) (sym c.all_digits.ensures ∙ c.if-not-all_digits.false) c.if-input-eq-DIGITS.true)

pub returns : goal.returns
returns c = sym (fed c.args.input.now (omega arith) (sym c.all_digits.ensures ∙ c.if-not-all_digits.false) (omega arith))

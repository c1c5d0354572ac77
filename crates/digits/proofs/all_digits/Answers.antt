-- `digits::all_digits` meets its contract.
use mathlib.Core.Path.{refl, sym, ap, ◌∙◌}
use native.Mathlib.Omega.{arith}
use lib.ListN.{get_or}
use lib.Seq.{take_all}
use Rattle.lists.proofs.Arrays.{tested_more}
use Rattle.lists.specs.Lists.{all}
use Rattle.model.specs.Driving.{is_digit}
use Rattle.digits.proofs.Values.{digit_class}
use Rattle.digits.proofs.all_digits.Goals as goal

pub loop-c-init : goal.loop-c-init
unfolding all
loop-c-init c = refl

pub loop-c-preserved : goal.loop-c-preserved
loop-c-preserved c = rw (c.loop-c.invariant, c.is_ascii_hexdigit-digits.ensures.value, ← digit_class (get_or c.args.line.now c.loop-c.c-index 0)) (sym (tested_more is_digit c.loop-c.c-index c.args.line.now 0 (omega arith)))

pub returns : goal.returns
returns c = c.loop-c.invariant ∙ ap (all is_digit) (take_all c.loop-c.c-index c.args.line.now (omega arith))

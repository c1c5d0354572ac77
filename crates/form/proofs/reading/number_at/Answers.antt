-- `reading::number_at` meets its contract.
use mathlib.Core.Path.{◌≡◌, refl, sym, ◌∙◌}
use native.Mathlib.Omega.{arith}
use Rattle.form.specs.Numbers.{number_in}
use Rattle.form.proofs.Found.{byte_more, small_more, below_eight}
use Rattle.form.proofs.reading.number_at.Goals as goal

pub loop-i-init : goal.loop-i-init
unfolding number_in
loop-i-init c = (refl, omega arith)

pub overflow_mul-number : goal.overflow_mul-number
overflow_mul-number c = let l = c.loop-i in
    omega (arith, below_eight l.i l.number (omega arith) l.invariant.1)

pub overflow_add-number : goal.overflow_add-number
overflow_add-number c = let l = c.loop-i in
    omega (arith, below_eight l.i l.number (omega arith) l.invariant.1)

pub loop-i-preserved : goal.loop-i-preserved
loop-i-preserved c = let l = c.loop-i in
    let a = c.args in
    (rw (c.byte_at.ensures, l.invariant.0) (sym (byte_more a.bytes.now a.at l.i)), small_more l.i l.number c.byte_at.result l.invariant.1 (omega arith))

pub returns : goal.returns
returns c = let l = c.loop-i in
    let a = c.args in
    let end : l.i ≡ a.width = omega arith in
    (l.invariant.0 ∙ rw end, rw end at l.invariant.1)

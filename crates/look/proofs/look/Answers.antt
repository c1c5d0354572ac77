use Prim.Native.Nat.{◌+◌, ◌*◌}
use Rattle.look.proofs.Passed.{looked, answer_number}
use Rattle.model.specs.Calls.{look_bytes}
use Rattle.lists.proofs.Lent.{lent_part}
use Rattle.model.proofs.Refusals.{refused_lem}
use Rattle.model.specs.Sizes.{page_index}
use borrow.Author.Tests.{ne_eqb}
use native.Mathlib.Omega.{arith}
use mathlib.Core.Path.{sym, ◌∙◌}
use Rattle.look.proofs.look.Goals as goal

pub overflow_mul-at : goal.overflow_mul-at
overflow_mul-at c = omega (arith, looked _ _ _ _ (sym c.in-Ok.ensures))

pub overflow_add-at : goal.overflow_add-at
overflow_add-at c = omega (arith, looked _ _ _ _ (sym c.in-Ok.ensures))

pub overflow_mul-at-in-Ok : goal.overflow_mul-at-in-Ok
overflow_mul-at-in-Ok c = omega (arith, looked _ _ _ _ (sym c.in-Ok.ensures))

pub overflow_add-end : goal.overflow_add-end
overflow_add-end c = omega (arith, looked _ _ _ _ (sym c.in-Ok.ensures))

pub slice_bounds-result-end : goal.slice_bounds-result-end
slice_bounds-result-end c = omega (arith, looked _ _ _ _ (sym c.in-Ok.ensures))

pub returns-in-Ok : goal.returns-in-Ok
unfolding look_bytes page_index
returns-in-Ok c = let a = c.args in
    let at = (a.bucket * a.z.p + a.page) * a.z.s in
    record { answer_after = c.in-Ok.ensures ∙ sym (answer_number a.z a.flash.now a.bucket a.page); result_value = rw (lent_part a.flash.now at a.z.s, ← c.in-Ok.ensures) }

pub returns-in-Err : goal.returns-in-Err
unfolding look_bytes
returns-in-Err c = let a = c.args in
    let told = c.in-Err.ensures in
    record {
      answer_after = c.number.ensures ∙ told ∙ sym (answer_number a.z a.flash.now a.bucket a.page);
      result_value = rw (← told, ne_eqb _ _ (refused_lem c.in-Err.refusal));
    }

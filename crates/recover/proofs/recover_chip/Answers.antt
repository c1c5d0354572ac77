use borrow.Author.Rules.{rules}
use mathlib.Core.Path.{refl, sym, ◌∙◌}
use native.Mathlib.Omega.{arith}
use Rattle.geometry.specs.Geometry.{device}
use Rattle.geometry.proofs.Passed.{lengths_of}
use Rattle.image.specs.Chip.{spare_only}
use Rattle.holes.proofs.SameSpare.{same-recoverable}
use Rattle.holes.proofs.Found.{found_headed}
use Rattle.state.specs.View.{view_of}
use Rattle.recover.proofs.Epochs.{top_fits}
use Rattle.recover.proofs.Stages.{entries_found, swept_left, stopped-handed, body_left, whole_recovered}
use Rattle.model.specs.Calls.{recover_call, sizes_of, done_answer, lent_buffer, read_buffer}
use Rattle.model.specs.Recover.{recover}
use Rattle.meter.proofs.Stays.{stays_on}
use Rattle.outcome.proofs.Ends.{step_left, step-handed}
use Rattle.recover.proofs.recover_chip.Goals as goal

pub top_epoch-next-requires-clause-headed : goal.top_epoch-next-requires-clause-headed
top_epoch-next-requires-clause-headed c =
    let a = c.args in
    found_headed a.z (spare_only a.spare.now) c.requires.limits.p_low (same-recoverable a.z (device a.flash.now a.spare.now a.disk.now) ∙ c.requires.found)

pub top_epoch-next-requires-clause-spare_value : goal.top_epoch-next-requires-clause-spare_value
top_epoch-next-requires-clause-spare_value c =
    let a = c.args in
    entries_found a.z (spare_only a.spare.now) (same-recoverable a.z (device a.flash.now a.spare.now a.disk.now) ∙ c.requires.found)

pub overflow_add-next : goal.overflow_add-next
overflow_add-next c =
    omega (arith, c.top_epoch-next.ensures, top_fits c.args.z c.requires.limits.p_low c.args.spare.now (λ i. search rules))

pub cut_short-requires : goal.cut_short-requires
cut_short-requires c =
    let a = c.args in
    swept_left a.allowance a.s (view_of a.s) a.z (device a.flash.now a.spare.now a.disk.now) (rw c.whole.ensures at c.sweep.ensures.after)

pub returns-then-run : goal.returns-then-run
returns-then-run c =
    let a = c.args in
    let d = device a.flash.now a.spare.now a.disk.now in
    let stays = c.sweep.ensures.stays in
    let flash = sym stays.flash in
    let spare = sym stays.spare in
    let disk = sym stays.disk in
    let ends = stopped-handed a.allowance a.s (view_of a.s) a.z d (rw c.whole.ensures at c.sweep.ensures.after) c.if-run.true in
    search (rules, flash, spare, disk, ends, c.cut_short.ensures)

pub rebuild-new-requires : goal.rebuild-new-requires
rebuild-new-requires c =
    let a = c.args in
    let q = c.requires in
    let d = device a.flash.now a.spare.now a.disk.now in
    let swept = c.sweep.ensures in
    record {
      limits = q.limits;
      lent = swept.stays.lent;
      body_formed = body_left a.allowance a.s (view_of a.s) a.z d (rw c.whole.ensures at swept.after) c.if-run.false q.limits (lengths_of q.lent) q.found;
    }

pub finish-requires : goal.finish-requires
unfolding sizes_of
finish-requires c =
    let a = c.args in
    let v = view_of a.s in
    let d = device a.flash.now a.spare.now a.disk.now in
    let ran = rw c.whole.ensures at c.sweep.ensures.after in
    step_left a.allowance (recover_call a.z) a.s v d (λ w x. recover a.z x)
    (whole_recovered a.allowance a.s v a.z d ran c.if-run.false (rw c.top_epoch-next.ensures at c.rebuild-new.ensures.after))

pub returns : goal.returns
unfolding sizes_of done_answer lent_buffer read_buffer
returns c =
    let a = c.args in
    let v = view_of a.s in
    let d = device a.flash.now a.spare.now a.disk.now in
    let ran = rw c.whole.ensures at c.sweep.ensures.after in
    let stays = stays_on _ _ _ _ c.sweep.ensures.stays c.rebuild-new.ensures.stays in
    let flash = sym stays.flash in
    let spare = sym stays.spare in
    let disk = sym stays.disk in
    let whole = whole_recovered a.allowance a.s v a.z d ran c.if-run.false (rw c.top_epoch-next.ensures at c.rebuild-new.ensures.after) in
    let ends = step-handed a.allowance (recover_call a.z) a.s v d (λ w x. recover a.z x) whole refl refl in
    search (rules, flash, spare, disk, ends, c.finish.ensures)

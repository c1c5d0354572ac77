use mathlib.Core.Path.{refl, sym}
use Rattle.geometry.specs.Geometry.{device}
use Rattle.geometry.proofs.Passed.{lent_passed}
use Rattle.model.specs.Calls.{format_call, tests, refusal, plan_of, lent_buffer}
use Rattle.outcome.proofs.Ends.{handed-taken, handed_refusal}
use Rattle.state.specs.View.{view_of}
use Rattle.format.proofs.format.Goals as goal

pub format_chip-requires : goal.format_chip-requires
format_chip-requires c = let a = c.args in
    let passed = lent_passed a.z (device a.flash.now a.spare.now a.disk.now) (sym c.in-Ok.ensures) in
    record { limits = passed.0; lent = passed.1 }

pub returns-in-Ok : goal.returns-in-Ok
unfolding tests refusal plan_of
returns-in-Ok c = let a = c.args in
    rw c.format_chip.ensures
    (handed-taken a.allowance (format_call a.z) a.s (view_of a.s) (device a.flash.now a.spare.now a.disk.now) refl (sym c.in-Ok.ensures))

pub returns-in-Err : goal.returns-in-Err
unfolding tests refusal lent_buffer
returns-in-Err c = let a = c.args in
    rw (c.refused.ensures, c.number.ensures) (handed_refusal a.allowance (format_call a.z) a.s (view_of a.s) (device a.flash.now a.spare.now a.disk.now) c.in-Err.refusal c.in-Err.ensures)

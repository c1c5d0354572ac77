use Rattle.outcome.proofs.Ends.{handed-taken, handed_refusal}
use Rattle.checks.proofs.Opens.{found_opens}
use Rattle.model.specs.Calls.{recover_call, tests, refusal, plan_of, lent_buffer}
use Rattle.geometry.specs.Geometry.{device}
use mathlib.Core.Path.{refl, sym}
use Rattle.state.specs.View.{view_of}
use Rattle.recover.proofs.recover.Goals as goal

pub recover_chip-requires : goal.recover_chip-requires
recover_chip-requires c = let a = c.args in
    found_opens a.z (device a.flash.now a.spare.now a.disk.now) (sym c.in-Ok.ensures)

pub returns-in-Ok : goal.returns-in-Ok
unfolding tests refusal plan_of
returns-in-Ok c = let a = c.args in
    rw c.recover_chip.ensures
    (handed-taken a.allowance (recover_call a.z) a.s (view_of a.s) (device a.flash.now a.spare.now a.disk.now) refl (sym c.in-Ok.ensures))

pub returns-in-Err : goal.returns-in-Err
unfolding tests refusal lent_buffer
returns-in-Err c = let a = c.args in
    rw (c.refused.ensures, c.number.ensures) (handed_refusal a.allowance (recover_call a.z) a.s (view_of a.s) (device a.flash.now a.spare.now a.disk.now) c.in-Err.refusal c.in-Err.ensures)

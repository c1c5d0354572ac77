use mathlib.Core.Path.{sym}
use Rattle.state.specs.View.{view_of}
use Rattle.geometry.specs.Geometry.{device}
use Rattle.model.specs.Calls.{erase_call, tests, refusal, plan_of, lent_buffer}
use Rattle.checks.proofs.Opens.{running_opens, open_orderly}
use Rattle.outcome.proofs.Ends.{handed-taken, handed_refusal}
use Rattle.erasestep.proofs.erase_step.Goals as goal

pub erase_head-requires : goal.erase_head-requires
unfolding view_of
erase_head-requires c = let a = c.args in
    let opened = running_opens (view_of a.s) (device a.flash.now a.spare.now a.disk.now) c.in-Ok.ensures.s_value (sym c.in-Ok.ensures.value) in
    record { lent = opened.image.lent; orderly = open_orderly opened }

pub returns-in-Ok : goal.returns-in-Ok
unfolding view_of tests refusal plan_of
returns-in-Ok c = let a = c.args in
    rw c.erase_head.ensures
    (handed-taken a.allowance erase_call a.s (view_of a.s) (device a.flash.now a.spare.now a.disk.now) c.in-Ok.ensures.s_value (sym c.in-Ok.ensures.value))

pub returns-in-Err : goal.returns-in-Err
unfolding view_of tests refusal lent_buffer
returns-in-Err c = let a = c.args in
    rw (c.refused.ensures, c.number.ensures) (handed_refusal a.allowance erase_call a.s (view_of a.s) (device a.flash.now a.spare.now a.disk.now) c.in-Err.refusal c.in-Err.ensures.value)

use mathlib.Core.Path.{sym}
use Rattle.state.specs.View.{view_of}
use Rattle.geometry.specs.Geometry.{device}
use Rattle.outcome.proofs.Ends.{handed-taken, handed_refusal}
use Rattle.checks.proofs.Opens.{running_opens}
use Rattle.model.specs.Calls.{drain_call, tests, refusal, plan_of, lent_buffer}
use Rattle.drain.proofs.Opened.{drains}
use Rattle.drain.proofs.drain.Goals as goal

pub drain_whole-requires : goal.drain_whole-requires
unfolding view_of
drain_whole-requires c = let a = c.args in
    let opened = running_opens (view_of a.s) (device a.flash.now a.spare.now a.disk.now) c.in-Ok.ensures.s_value (sym c.in-Ok.ensures.value) in
    record { lent = opened.image.lent; drains = drains opened }

pub returns-in-Ok : goal.returns-in-Ok
unfolding view_of tests refusal plan_of
returns-in-Ok c = let a = c.args in
    rw c.drain_whole.ensures
    (handed-taken a.allowance drain_call a.s (view_of a.s) (device a.flash.now a.spare.now a.disk.now) c.in-Ok.ensures.s_value (sym c.in-Ok.ensures.value))

pub returns-in-Err : goal.returns-in-Err
unfolding view_of tests refusal lent_buffer
returns-in-Err c = let a = c.args in
    rw (c.refused.ensures, c.number.ensures) (handed_refusal a.allowance drain_call a.s (view_of a.s) (device a.flash.now a.spare.now a.disk.now) c.in-Err.refusal c.in-Err.ensures.value)

use mathlib.Core.Path.{sym}
use lib.ListN.{length}
use Rattle.model.specs.Calls.{read_call, tests, refusal, plan_of, lent_buffer}
use Rattle.geometry.specs.Geometry.{device}
use Rattle.state.specs.View.{view_of}
use Rattle.checks.proofs.Opens.{read_opens}
use Rattle.outcome.proofs.Ends.{handed-taken, handed_refusal}
use Rattle.read.proofs.Opened.{reads}
use Rattle.read.proofs.read.Goals as goal

pub read_bucket-requires : goal.read_bucket-requires
unfolding view_of
read_bucket-requires c = let a = c.args in
    let opened = read_opens (view_of a.s) (device a.flash.now a.spare.now a.disk.now) c.in-Ok.ensures.s_value a.b a.offset (length a.buffer.now) (sym c.in-Ok.ensures.value) in
    record { lent = opened.0.image.lent; reads = reads opened.0 opened.1 }

pub returns-in-Ok : goal.returns-in-Ok
unfolding view_of tests refusal plan_of
returns-in-Ok c = let a = c.args in
    rw c.read_bucket.ensures
    (handed-taken a.allowance (read_call a.b a.offset a.buffer.now) a.s (view_of a.s) (device a.flash.now a.spare.now a.disk.now) c.in-Ok.ensures.s_value (sym c.in-Ok.ensures.value))

pub returns-in-Err : goal.returns-in-Err
unfolding view_of tests refusal lent_buffer
returns-in-Err c = let a = c.args in
    rw (c.refused.ensures, c.number.ensures) (handed_refusal a.allowance (read_call a.b a.offset a.buffer.now) a.s (view_of a.s) (device a.flash.now a.spare.now a.disk.now) c.in-Err.refusal c.in-Err.ensures.value)

use mathlib.Core.Path.{sym}
use Rattle.write.proofs.Opened.{open_writes}
use Rattle.outcome.proofs.Ends.{handed-taken, handed_refusal}
use Rattle.checks.proofs.Opens.{write_opens}
use Rattle.state.specs.View.{view_of}
use Rattle.geometry.proofs.Passed.{products}
use Rattle.geometry.specs.Geometry.{device}
use Rattle.model.specs.Calls.{write_call, tests, refusal, plan_of, lent_buffer}
use Rattle.model.specs.Sizes.{bucket_size}
use lib.ListN.{length}
use native.Mathlib.Omega.{arith}
use Rattle.write.proofs.write.Goals as goal

pub overflow_cast-offset : goal.overflow_cast-offset
unfolding view_of bucket_size
overflow_cast-offset c = let a = c.args in
    let opened = write_opens (view_of a.s) (device a.flash.now a.spare.now a.disk.now) c.in-Ok.ensures.s_value a.b a.offset (length a.bytes.now) (sym c.in-Ok.ensures.value) in
    omega (arith, opened.1.n_some, opened.1.range_in, products opened.0.image.limits)

pub write_bytes-requires : goal.write_bytes-requires
unfolding view_of
write_bytes-requires c = let a = c.args in
    let opened = write_opens (view_of a.s) (device a.flash.now a.spare.now a.disk.now) c.in-Ok.ensures.s_value a.b a.offset (length a.bytes.now) (sym c.in-Ok.ensures.value) in
    record { lent = opened.0.image.lent; writes = open_writes opened.0 opened.1 opened.2 }

pub returns-in-Ok : goal.returns-in-Ok
unfolding view_of tests refusal plan_of
returns-in-Ok c = let a = c.args in
    rw c.write_bytes.ensures
    (handed-taken a.allowance (write_call a.b a.offset a.bytes.now) a.s (view_of a.s) (device a.flash.now a.spare.now a.disk.now) c.in-Ok.ensures.s_value (sym c.in-Ok.ensures.value))

pub returns-in-Err : goal.returns-in-Err
unfolding view_of tests refusal lent_buffer
returns-in-Err c = let a = c.args in
    rw (c.refused.ensures, c.number.ensures) (handed_refusal a.allowance (write_call a.b a.offset a.bytes.now) a.s (view_of a.s) (device a.flash.now a.spare.now a.disk.now) c.in-Err.refusal c.in-Err.ensures.value)

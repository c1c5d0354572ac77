use mathlib.Core.Bool.{true, false}
use mathlib.Core.Path.{◌≡◌, refl, sym, ◌∙◌}
use native.Mathlib.Omega.{arith}
use borrow.Author.Rules.{rules}
use Rattle.std.proofs.lemmas.Result.{IfOk-from_err}
use lib.Dec.{ltb}
use borrow.Author.Tests.{lt-ltb, le-ltb}
use Rattle.geometry.specs.Geometry.{device}
use Rattle.model.specs.Calls.{range_fits, running_tests}
use Rattle.state.specs.View.{view_of}
use Rattle.checks.proofs.Opens.{running_opens}
use Rattle.checks.proofs.Rest.{read-rest}
use Rattle.checks.proofs.Failed.{stays_on}
use Rattle.checks.proofs.check_read.Goals as goal

pub returns-in_err-check_running : goal.returns-in_err-check_running
unfolding view_of
returns-in_err-check_running c = let a = c.args in
    record { value = stays_on (running_tests (view_of a.s) (device a.flash.now a.spare.now a.disk.now)) _ _ _ c.from_residual.ensures.1 c.in_err-check_running.ensures.value; s_value = IfOk-from_err _ _ c.from_residual.ensures.0 }

pub returns-then-s-b : goal.returns-then-s-b
unfolding view_of
returns-then-s-b c = let a = c.args in
    let d = device a.flash.now a.spare.now a.disk.now in
    let there : ltb a.b a.s.sizes.b ≡ false = le-ltb a.b a.s.sizes.b c.if-s-b.true in
    record { value = rw (read-rest (view_of a.s) d a.b a.offset a.length (sym c.in_ok-check_running.ensures.value), there); s_value = search rules }

pub range_fits-requires : goal.range_fits-requires
unfolding view_of
range_fits-requires c = let a = c.args in
    (running_opens (view_of a.s) (device a.flash.now a.spare.now a.disk.now) refl (sym c.in_ok-check_running.ensures.value)).image.limits

pub returns : goal.returns
unfolding view_of
returns c = let a = c.args in
    let d = device a.flash.now a.spare.now a.disk.now in
    let there : ltb a.b a.s.sizes.b ≡ true = lt-ltb a.b a.s.sizes.b (omega (arith, c.if-s-b.false)) in
    let fits : range_fits a.s.sizes a.offset a.length ≡ true = sym c.range_fits.ensures ∙ c.if-not-range_fits.false in
    record { value = rw (read-rest (view_of a.s) d a.b a.offset a.length (sym c.in_ok-check_running.ensures.value), there, fits); s_value = c.in_ok-check_running.ensures.s_value }

pub returns-then-not-range_fits : goal.returns-then-not-range_fits
unfolding view_of
returns-then-not-range_fits c = let a = c.args in
    let d = device a.flash.now a.spare.now a.disk.now in
    let there : ltb a.b a.s.sizes.b ≡ true = lt-ltb a.b a.s.sizes.b (omega (arith, c.if-s-b.false)) in
    let fits : range_fits a.s.sizes a.offset a.length ≡ false = sym c.range_fits.ensures ∙ c.if-not-range_fits.true in
    record { value = rw (read-rest (view_of a.s) d a.b a.offset a.length (sym c.in_ok-check_running.ensures.value), there, fits); s_value = search rules }

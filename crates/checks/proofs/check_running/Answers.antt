use borrow.Author.Tests.{not-true, not-false}
use mathlib.Core.Bool.{true, false}
use mathlib.Core.Path.{◌≡◌, sym, ◌∙◌}
use borrow.Author.Rules.{rules}
use Rattle.std.proofs.lemmas.Result.{IfOk-from_err}
use Rattle.geometry.specs.Geometry.{device}
use Rattle.model.specs.Calls.{lent_tests, running_tests}
use Rattle.model.specs.Ledger.{well_formed}
use Rattle.model.specs.State.{state_fits}
use Rattle.state.specs.View.{view_of}
use Rattle.fits.proofs.SameSpare.{same-fits}
use Rattle.rules.proofs.SameSpare.{same-well_formed}
use Rattle.checks.proofs.Opens.{chip_opens}
use Rattle.checks.proofs.Rest.{running-rest}
use Rattle.checks.proofs.Failed.{stays_on}
use Rattle.checks.proofs.check_running.Goals as goal

pub returns-in_err-check_lent : goal.returns-in_err-check_lent
unfolding view_of running_tests
returns-in_err-check_lent c = let a = c.args in
    record { value = stays_on (lent_tests a.s.sizes (device a.flash.now a.spare.now a.disk.now)) _ _ _ c.from_residual.ensures.1 c.in_err-check_lent.ensures; s_value = IfOk-from_err _ _ c.from_residual.ensures.0 }

pub returns-then-not-s : goal.returns-then-not-s
unfolding view_of
returns-then-not-s c = let a = c.args in
    let d = device a.flash.now a.spare.now a.disk.now in
    let stopped : a.s.running ≡ false = not-true a.s.running c.if-not-s.true in
    record { value = rw (running-rest (view_of a.s) d (sym c.in_ok-check_lent.ensures), stopped); s_value = search rules }

pub well_formed-requires : goal.well_formed-requires
well_formed-requires c = let a = c.args in
    chip_opens a.s.sizes (device a.flash.now a.spare.now a.disk.now) (sym c.in_ok-check_lent.ensures)

pub returns-then-not-well_formed : goal.returns-then-not-well_formed
unfolding view_of
returns-then-not-well_formed c = let a = c.args in
    let d = device a.flash.now a.spare.now a.disk.now in
    let going : a.s.running ≡ true = not-false a.s.running c.if-not-s.false in
    let formed : well_formed a.s.sizes d ≡ false = sym (c.well_formed-2.ensures ∙ same-well_formed a.s.sizes d) ∙ c.if-not-well_formed.true in
    record { value = rw (running-rest (view_of a.s) d (sym c.in_ok-check_lent.ensures), formed, going); s_value = search rules }

pub state_fits-requires : goal.state_fits-requires
state_fits-requires c = let a = c.args in
    record { chip = chip_opens a.s.sizes (device a.flash.now a.spare.now a.disk.now) (sym c.in_ok-check_lent.ensures); spare_value = sym c.well_formed-2.ensures ∙ c.if-not-well_formed.false }

pub returns : goal.returns
unfolding view_of
returns c = let a = c.args in
    let d = device a.flash.now a.spare.now a.disk.now in
    let going : a.s.running ≡ true = not-false a.s.running c.if-not-s.false in
    let formed : well_formed a.s.sizes d ≡ true = sym (c.well_formed-2.ensures ∙ same-well_formed a.s.sizes d) ∙ c.if-not-well_formed.false in
    let fits : state_fits (view_of a.s) d ≡ true = sym (c.state_fits.ensures.value ∙ same-fits (view_of a.s) d) ∙ c.if-not-state_fits.false in
    record { value = rw (running-rest (view_of a.s) d (sym c.in_ok-check_lent.ensures), fits, formed, going); s_value = c.state_fits.ensures.s_value c.if-not-state_fits.false }

pub returns-then-not-state_fits : goal.returns-then-not-state_fits
unfolding view_of
returns-then-not-state_fits c = let a = c.args in
    let d = device a.flash.now a.spare.now a.disk.now in
    let going : a.s.running ≡ true = not-false a.s.running c.if-not-s.false in
    let formed : well_formed a.s.sizes d ≡ true = sym (c.well_formed-2.ensures ∙ same-well_formed a.s.sizes d) ∙ c.if-not-well_formed.false in
    let fits : state_fits (view_of a.s) d ≡ false = sym (c.state_fits.ensures.value ∙ same-fits (view_of a.s) d) ∙ c.if-not-state_fits.true in
    record { value = rw (running-rest (view_of a.s) d (sym c.in_ok-check_lent.ensures), fits, formed, going); s_value = search rules }

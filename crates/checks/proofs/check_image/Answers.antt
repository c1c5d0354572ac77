use mathlib.Core.Bool.{true, false}
use mathlib.Core.Path.{◌≡◌, sym, ◌∙◌}
use Rattle.geometry.specs.Geometry.{device}
use Rattle.model.specs.Calls.{lent_tests}
use Rattle.model.specs.Image.{body_fits}
use Rattle.rules.proofs.SameSpare.{same-body-fits}
use Rattle.checks.proofs.Opens.{chip_opens}
use Rattle.checks.proofs.Rest.{image_rest}
use Rattle.checks.proofs.Failed.{stays_on}
use Rattle.checks.proofs.check_image.Goals as goal

pub returns-in_err-check_lent : goal.returns-in_err-check_lent
returns-in_err-check_lent c = let a = c.args in
    stays_on (lent_tests a.z (device a.flash.now a.spare.now a.disk.now)) _ _ _ c.from_residual.ensures.1 c.in_err-check_lent.ensures

pub body_fits-requires : goal.body_fits-requires
body_fits-requires c = let a = c.args in
    chip_opens a.z (device a.flash.now a.spare.now a.disk.now) (sym c.in_ok-check_lent.ensures)

pub returns : goal.returns
returns c = let a = c.args in
    let d = device a.flash.now a.spare.now a.disk.now in
    let formed : body_fits a.z d ≡ true = sym (c.body_fits.ensures ∙ same-body-fits a.z d) ∙ c.if-not-body_fits.false in
    rw (image_rest a.z d (sym c.in_ok-check_lent.ensures), formed)

pub returns-then-not-body_fits : goal.returns-then-not-body_fits
returns-then-not-body_fits c = let a = c.args in
    let d = device a.flash.now a.spare.now a.disk.now in
    let formed : body_fits a.z d ≡ false = sym (c.body_fits.ensures ∙ same-body-fits a.z d) ∙ c.if-not-body_fits.true in
    rw (image_rest a.z d (sym c.in_ok-check_lent.ensures), formed)

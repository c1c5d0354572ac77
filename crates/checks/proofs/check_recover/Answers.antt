use mathlib.Core.Bool.{true, false}
use mathlib.Core.Path.{◌≡◌, sym, ◌∙◌}
use Rattle.geometry.specs.Geometry.{device}
use Rattle.model.specs.Calls.{lent_tests}
use Rattle.model.specs.Ledger.{recoverable}
use Rattle.holes.proofs.SameSpare.{same-recoverable}
use Rattle.checks.proofs.Opens.{chip_opens}
use Rattle.checks.proofs.Rest.{recover-rest}
use Rattle.checks.proofs.Failed.{stays_on}
use Rattle.checks.proofs.check_recover.Goals as goal

pub returns-in_err-check_lent : goal.returns-in_err-check_lent
returns-in_err-check_lent c = let a = c.args in
    stays_on (lent_tests a.z (device a.flash.now a.spare.now a.disk.now)) _ _ _ c.from_residual.ensures.1 c.in_err-check_lent.ensures

pub recoverable-requires : goal.recoverable-requires
recoverable-requires c = let a = c.args in
    chip_opens a.z (device a.flash.now a.spare.now a.disk.now) (sym c.in_ok-check_lent.ensures)

pub returns : goal.returns
returns c = let a = c.args in
    let d = device a.flash.now a.spare.now a.disk.now in
    let found : recoverable a.z d ≡ true = sym (c.recoverable.ensures ∙ same-recoverable a.z d) ∙ c.if-not-recoverable.false in
    rw (recover-rest a.z d (sym c.in_ok-check_lent.ensures), found)

pub returns-then-not-recoverable : goal.returns-then-not-recoverable
returns-then-not-recoverable c = let a = c.args in
    let d = device a.flash.now a.spare.now a.disk.now in
    let found : recoverable a.z d ≡ false = sym (c.recoverable.ensures ∙ same-recoverable a.z d) ∙ c.if-not-recoverable.true in
    rw (recover-rest a.z d (sym c.in_ok-check_lent.ensures), found)

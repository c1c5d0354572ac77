use Rattle.geometry.specs.Geometry.{device}
use Rattle.geometry.proofs.Passed.{lent_passed}
use mathlib.Core.Path.{sym, ◌∙◌}
use Rattle.checks.proofs.Passes.{no_error}
use Rattle.checks.proofs.Opens.{chip_opens}
use Rattle.remerge.proofs.tear.after_call.Goals as goal

pub one_in_use-requires : goal.one_in_use-requires
one_in_use-requires c = let a = c.args in
    chip_opens a.z (device a.flash.now a.spare.now a.disk.now) (sym c.check_lent.ensures ∙ no_error _ (sym c.is_err.ensures.value ∙ c.if-is_err.false))

pub damage-requires : goal.damage-requires
damage-requires c = let a = c.args in
    let passed = lent_passed a.z (device a.flash.now a.spare.now a.disk.now) (sym c.check_lent.ensures ∙ no_error _ (sym c.is_err.ensures.value ∙ c.if-is_err.false)) in
    record { chip = record { limits = passed.0; spare_length = passed.1.spare_length }; flash_len = passed.1.flash_length }

use Rattle.checks.proofs.Opens.{image_opens}
use Rattle.rules.proofs.SameSpare.{same-body-fits}
use Rattle.geometry.specs.Geometry.{device}
use Rattle.std.proofs.Common.{sym, ◌∙◌}
use Rattle.checks.proofs.Passes.{no_error}
use Rattle.remerge.proofs.compare.compare.Goals as goal

pub compare_all-requires : goal.compare_all-requires
compare_all-requires c = let a = c.args in
    let d = device a.flash.now a.spare.now a.disk.now in
    let opened = image_opens a.z d (sym c.check_image.ensures ∙ no_error _ (sym c.is_err.ensures.value ∙ c.if-is_err.false)) in
    record { readable = record { limits = opened.limits; flash_length = opened.lent.flash_length; spare_length = opened.lent.spare_length; body_formed = same-body-fits a.z d ∙ opened.formed }; disk_len = opened.lent.disk_length }

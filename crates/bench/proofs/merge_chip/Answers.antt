use Rattle.checks.proofs.Passes.{no_error}
use Rattle.checks.proofs.Opens.{Image, image_opens}
use Rattle.rules.proofs.SameSpare.{same-body-fits}
use Rattle.geometry.proofs.Places.{nth_inside}
use Rattle.geometry.specs.Geometry.{device}
use Rattle.model.specs.Sizes.{bucket_size, disk_size}
use Rattle.std.proofs.Common.{◌*◌, ◌≤◌, length, sym, ◌∙◌, arith, length-take}
use Rattle.bench.proofs.merge_chip.Goals as goal

pub overflow_mul-size : goal.overflow_mul-size
unfolding bucket_size
overflow_mul-size c = let opened : let a = c.args in Image a.z (device a.flash.now a.spare.now a.disk.now) = let a = c.args in image_opens a.z (device a.flash.now a.spare.now a.disk.now) (sym c.check_image.ensures ∙ no_error _ (sym c.is_err.ensures.value ∙ c.if-is_err.false)) in
    omega (arith, (opened).limits.size_high)

pub slice_bounds-merges-end : goal.slice_bounds-merges-end
unfolding disk_size bucket_size
slice_bounds-merges-end c = let opened : let a = c.args in Image a.z (device a.flash.now a.spare.now a.disk.now) = let a = c.args in image_opens a.z (device a.flash.now a.spare.now a.disk.now) (sym c.check_image.ensures ∙ no_error _ (sym c.is_err.ensures.value ∙ c.if-is_err.false)) in
    let inside : let a = c.args in a.z.p * a.z.s ≤ length a.disk.now = let z = c.args.z in let o = opened in omega (arith, nth_inside 0 z.b (z.p * z.s) o.limits.b_low, o.lent.disk_length) in
    simp length-take (omega (arith, inside))

pub merges-requires : goal.merges-requires
unfolding bucket_size disk_size
merges-requires c = let opened : let a = c.args in Image a.z (device a.flash.now a.spare.now a.disk.now) = let a = c.args in image_opens a.z (device a.flash.now a.spare.now a.disk.now) (sym c.check_image.ensures ∙ no_error _ (sym c.is_err.ensures.value ∙ c.if-is_err.false)) in
    let inside : let a = c.args in a.z.p * a.z.s ≤ length a.disk.now = let z = c.args.z in let o = opened in omega (arith, nth_inside 0 z.b (z.p * z.s) o.limits.b_low, o.lent.disk_length) in
    let a = c.args in let o = opened in record { readable = record { limits = o.limits; flash_length = o.lent.flash_length; spare_length = o.lent.spare_length; body_formed = same-body-fits a.z (device a.flash.now a.spare.now a.disk.now) ∙ o.formed }; under_len = simp length-take (omega (arith, inside)); window_bound = omega (arith, c.if-size-from.false, c.if-size-from-2.false) }

use Rattle.rules.proofs.Page.{later_page}
use Rattle.image.proofs.Place.{page_inside}
use Rattle.image.specs.Chip.{spare_only}
use Rattle.model.specs.Stores.{tag_of}
use Rattle.model.specs.Sizes.{page_index}
use Rattle.lists.specs.Lists.{part}
use mathlib.Core.Path.{◌≡◌, sym, ◌∙◌}
use Prim.Native.Nat.{ℕ, ◌+◌, ◌*◌, ◌-◌}
use native.Mathlib.Omega.{arith}
use Rattle.rules.proofs.later_fits_at.Goals as goal

pub overflow_mul-start : goal.overflow_mul-start
overflow_mul-start c = omega (arith, page_inside c.requires.chip c.requires.c_lt_c c.requires.le_k.1)

pub overflow_add-start : goal.overflow_add-start
overflow_add-start c = omega (arith, page_inside c.requires.chip c.requires.c_lt_c c.requires.le_k.1)

pub overflow_mul-start-2 : goal.overflow_mul-start-2
overflow_mul-start-2 c = omega (arith, page_inside c.requires.chip c.requires.c_lt_c c.requires.le_k.1)

pub overflow_add-end : goal.overflow_add-end
overflow_add-end c = omega (arith, page_inside c.requires.chip c.requires.c_lt_c c.requires.le_k.1)

pub slice_bounds-later_fits-end : goal.slice_bounds-later_fits-end
slice_bounds-later_fits-end c = omega (arith, page_inside c.requires.chip c.requires.c_lt_c c.requires.le_k.1)

pub slice_bounds-later_fits-end-2 : goal.slice_bounds-later_fits-end-2
slice_bounds-later_fits-end-2 c = omega (arith, page_inside c.requires.chip c.requires.c_lt_c c.requires.le_k.1)

pub returns : goal.returns
unfolding tag_of page_index part
returns c = let a = c.args in
    let s : ℕ = (a.c * a.z.p + a.k) * 16 in
    let one : s - (s - 16) ≡ 16 = omega (arith, c.requires.le_k) in
    let two : s + 16 - s ≡ 16 = omega arith in
    let before : s - 16 ≡ (a.c * a.z.p + (a.k - 1)) * 16 = omega (arith, c.requires.le_k) in
    rw (one, two, before) at c.later_fits.ensures ∙ sym (later_page a.z (spare_only a.spare.now) a.c a.k (λ e. omega (arith, c.requires.le_k)))

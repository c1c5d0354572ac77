use Prim.Native.Nat.{ℕ}
use lib.Dec.{leb, eqb}
use native.Mathlib.Omega.{arith}
use mathlib.Core.Path.{◌≡◌, sym, ap, ◌∙◌}
use Rattle.lists.proofs.Tests.{every-four}
use Rattle.model.specs.declared.Sizes.{Sizes}
use Rattle.model.specs.Sizes.{Device, page_index}
use Rattle.model.specs.Stores.{tag_of}
use Rattle.model.specs.Spare.{write_kind, kind, back}
use Rattle.model.specs.Image.{head_tag, used, is_write, back_of, blanks}
use Rattle.model.specs.State.{count_agrees, write_agrees}
use Rattle.image.specs.Chip.{spare_only}
use Rattle.image.proofs.First.{write_real}
use Rattle.image.proofs.Place.{page_inside}
use Rattle.fits.proofs.write_agrees.Goals as goal

-- the kind of the head tells
by_kind : (z : Sizes) (d : Device) (c : ℕ) → eqb (kind (head_tag z d c)) write_kind ≡ is_write z d c
unfolding is_write used
by_kind z d c = write_real (head_tag z d c)

pub overflow_mul-page : goal.overflow_mul-page
overflow_mul-page c = omega (arith, page_inside c.requires.chip c.requires.cache_lt_c c.head-k.ensures.inside)

pub overflow_add-page : goal.overflow_add-page
overflow_add-page c = omega (arith, page_inside c.requires.chip c.requires.cache_lt_c c.head-k.ensures.inside)

pub kind_at-write-requires : goal.kind_at-write-requires
kind_at-write-requires c = page_inside c.requires.chip c.requires.cache_lt_c c.head-k.ensures.inside

pub back_at-requires : goal.back_at-requires
back_at-requires c = page_inside c.requires.chip c.requires.cache_lt_c c.head-k.ensures.inside

pub returns : goal.returns
unfolding write_agrees count_agrees back_of tag_of page_index
returns c = let a = c.args in
    let d = spare_only a.spare.now in
    let h = c.head-k.ensures.is in
    rw (
      c.kind_at-write.ensures ∙ ap kind (sym h),
      c.back_at.ensures ∙ ap back (sym h),
      c.has_blanks-count.ensures,
      by_kind a.z d a.e.cache,
    )
    (every-four
    (is_write a.z d a.e.cache)
    (eqb (back_of a.z d a.e.cache) a.e.back)
    (leb a.e.priority a.z.p)
    (eqb a.e.blank (blanks a.z d a.e.cache)))

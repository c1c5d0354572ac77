use Prim.Native.Nat.{ℕ}
use native.Mathlib.Omega.{arith}
use mathlib.Core.Path.{◌≡◌, refl, ap, ◌∙◌}
use mathlib.Core.Bool.{Bool, true, false, ◌&&◌}
use lib.Dec.{eqb}
use Rattle.model.specs.declared.Sizes.{Sizes}
use Rattle.model.specs.Sizes.{Device}
use Rattle.model.specs.Stores.{tag_of}
use Rattle.model.specs.Spare.{back}
use Rattle.model.specs.Image.{bucket_fits, back_of, complete}
use Rattle.model.specs.State.{read_agrees}
use Rattle.model.proofs.Limits.{Limits}
use Rattle.image.specs.Chip.{spare_only}
use Rattle.image.proofs.Copies.{complete-head}
use Rattle.image.proofs.First.{first_inside, first_tag_lem}
use Rattle.fits.proofs.read_agrees.Goals as goal

-- the first page tells the back-end bucket of a complete copy
by_first : (z : Sizes) (d : Device) (c b : ℕ) → Limits z → bucket_fits z d c ≡ true → (t : Bool) → complete z d c ≡ t
    → complete z d c && eqb (back (tag_of z d c 0)) b ≡ (complete z d c && eqb (back_of z d c) b)
unfolding back_of
by_first z d c b limits fit true h = rw (complete-head z d c limits fit h)
by_first z d c b limits fit false h = rw h

pub overflow_mul-c : goal.overflow_mul-c
overflow_mul-c c = let p = c.requires in omega (arith, first_inside p.chip p.cache_lt_c)

pub back_at-requires : goal.back_at-requires
back_at-requires c = let p = c.requires in first_inside p.chip p.cache_lt_c

pub returns : goal.returns
unfolding read_agrees
returns c = let o = c in let a = o.args in let d = spare_only a.spare.now in
    rw (c.complete-whole.ensures, c.back_at.ensures ∙ ap back (first_tag_lem a.z d a.e.cache))
    (by_first a.z d a.e.cache a.e.back o.requires.chip.limits o.requires.cache_value (complete a.z d a.e.cache) refl)

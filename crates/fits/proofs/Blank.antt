-- A bucket made by the page rules has blank pages alone if its first is blank.
use Prim.Native.Nat.{ℕ, ◌-◌, ◌≤◌}
use mathlib.Core.Path.{◌≡◌, refl, sym, ◌∙◌}
use mathlib.Core.Bool.{Bool, true, false}
use native.Mathlib.Omega.{arith}
use lib.Dec.{eqb}
use borrow.Author.Tests.{eq-eqb, ne_eqb, leb-true, leb-false}
use Rattle.model.specs.declared.Sizes.{Sizes}
use Rattle.model.specs.Sizes.{Device}
use Rattle.model.specs.Stores.{tag_of}
use Rattle.model.specs.Spare.{blank, kind}
use Rattle.model.specs.Image.{bucket_fits, blanks}
use Rattle.model.specs.State.{all_blank}
use Rattle.model.proofs.Formed.{blank_from_lem}
use Rattle.model.proofs.Buckets.{blanks_most}
use Rattle.image.proofs.First.{kind-blank}

module _ (z : Sizes) (d : Device) (c : ℕ) (some : 1 ≤ z.p) (fit : bucket_fits z d c ≡ true) where
  first_all : blank (tag_of z d c 0) ≡ all_blank z d c
  unfolding all_blank
  first_all = go (blank (tag_of z d c 0)) refl
    where
      go : (t : Bool) → blank (tag_of z d c 0) ≡ t → t ≡ eqb (blanks z d c) z.p
      go true e =
          let k = leb-true (z.p - blanks z d c) 0 (sym (blank_from_lem z d c fit 0 some) ∙ e) in
          sym (eq-eqb (blanks z d c) z.p (omega (arith, blanks_most z d c)))
      go false e =
          let k = leb-false (z.p - blanks z d c) 0 (sym (blank_from_lem z d c fit 0 some) ∙ e) in
          sym (ne_eqb (blanks z d c) z.p (λ q. omega arith))

  pub first_kind : eqb (kind (tag_of z d c 0)) 255 ≡ all_blank z d c
  first_kind = sym (kind-blank z d c 0 fit some) ∙ first_all

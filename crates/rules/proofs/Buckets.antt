-- A bucket that fits: pages that fit, then blank ones. Several buckets with no kind at once.
use Prim.Native.Nat.{ℕ, suc, ◌+◌, ◌-◌, ◌*◌, ◌≤◌, ◌<◌}
use mathlib.Core.Path.{◌≡◌, refl, sym, ap, ◌∙◌}
use mathlib.Core.Bool.{Bool, true, false, ◌&&◌, true≢false}
use mathlib.Core.List.{List}
use native.Mathlib.Omega.{arith}
use native.Mathlib.Decide.{dec_lt}
use native.Mathlib.Nat.{add-zero, sub-zero, add-mul, mul-le-mul_right}
use lib.ListN.{length}
use borrow.Author.Tests.{eq-eqb}
use Rattle.lists.specs.Lists.{all_below, part}
use Rattle.lists.proofs.Tests.{same_truth, and-true, and_false}
use Rattle.lists.proofs.Rows.{all-below, below_all, below_alike, below_append, below_rows}
use Rattle.model.specs.declared.Sizes.{Sizes}
use Rattle.model.specs.Sizes.{spare_size}
use Rattle.model.specs.Spare.{blank, kind}
use Rattle.model.specs.Stores.{tag_of}
use Rattle.model.specs.Image.{page_fits, bucket_fits}
use Rattle.model.proofs.Tags.{programmed_real, blank_unprogrammed}
use Rattle.model.proofs.Rules.{Ruled, ruled_test, unruled_test, fields_real}
use Rattle.model.proofs.Formed.{fits_test, blank-after}
use Rattle.spare.specs.Fields.{blank_from}
use Rattle.image.specs.Chip.{Chip, spare_only}
use Rattle.image.proofs.First.{kind-blank}
use Rattle.image.proofs.Place.{page_from}
use Rattle.rules.specs.Pages.{Fitting, fits_from}
use Rattle.rules.proofs.Later.{fitting_ruled}

module _ (z : Sizes) (spare : List ℕ) where
  -- pages that fit as most do, and then blank ones
  pub fitting_fits : (c n : ℕ) → Fitting z (spare_only spare) c n → all_below (z.p - n) (blank_from spare (c * z.p + n)) ≡ true → bucket_fits z (spare_only spare) c ≡ true
  fitting_fits c n fit rest = fits_test z (spare_only spare) c (λ k q e. next k q e (dec_lt k n)) (λ k q. fits k q (dec_lt k n))
    where
      here : (k : ℕ) → k < n → Ruled z (spare_only spare) c k
      here = fitting_ruled z (spare_only spare) c n fit.1

      from : (k : ℕ) → n ≤ k → k < z.p → blank (tag_of z (spare_only spare) c k) ≡ true
      from k g q =
          let at : n + (k - n) ≡ k = omega arith in
          ap (λ (i : ℕ). blank (tag_of z (spare_only spare) c i)) (sym at)
          ∙ (sym (page_from z spare c n (k - n)) ∙ all-below (z.p - n) (blank_from spare (c * z.p + n)) rest (k - n) (omega arith))

      next : (k : ℕ) → suc k < z.p → blank (tag_of z (spare_only spare) c k) ≡ true → Dec (k < n) → blank (tag_of z (spare_only spare) c (suc k)) ≡ true
      next k q e (yes g) = absurd (true≢false (sym e ∙ (programmed_real (tag_of z (spare_only spare) c k) (fields_real z (tag_of z (spare_only spare) c k) (here k g).fields)).0))
      next k q e (no g) = from (suc k) (omega arith) q

      fits : (k : ℕ) → k < z.p → Dec (k < n) → page_fits z (spare_only spare) c k ≡ true
      fits k q (yes g) = ruled_test z (spare_only spare) c k (here k g)
      fits k q (no g) = unruled_test z (spare_only spare) c k (blank_unprogrammed (tag_of z (spare_only spare) c k) (from k (omega arith) q))

  -- a bucket whose first page has no kind fits if its pages are blank
  no_kind_fits : (c : ℕ) → kind (tag_of z (spare_only spare) c 0) ≡ 255 → bucket_fits z (spare_only spare) c ≡ all_below z.p (blank_from spare (c * z.p))
  unfolding all_below
  no_kind_fits c e = same_truth _ _
      (λ h. below_all z.p (blank_from spare (c * z.p)) (λ k q.
      let first : blank (tag_of z (spare_only spare) c 0) ≡ true = kind-blank z (spare_only spare) c 0 h (omega arith) ∙ eq-eqb _ 255 e in
      rw (add-zero (c * z.p)) at (page_from z spare c 0 k) ∙ blank-after z (spare_only spare) c h 0 (0 + k) (omega arith) (omega arith) first))
      (λ h. fitting_fits c 0 (omega arith, refl) (rw (sub-zero, add-zero) h))

  -- so do several
  pub span_split : (c n : ℕ) → ((j : ℕ) → j < n → kind (tag_of z (spare_only spare) (c + j) 0) ≡ 255)
      → all_below (n * z.p) (blank_from spare (c * z.p)) ≡ all_below n (fits_from z (spare_only spare) c)
  unfolding fits_from blank_from
  span_split c n h = below_rows n z.p (blank_from spare (c * z.p)) ∙ below_alike n _ (fits_from z (spare_only spare) c) (λ j q.
      below_alike z.p _ (blank_from spare ((c + j) * z.p)) (λ k g.
      let at : c * z.p + (j * z.p + k) ≡ (c + j) * z.p + k = omega (arith, add-mul c j z.p) in
      ap (λ (i : ℕ). blank (part spare (i * 16) 16)) at)
      ∙ sym (no_kind_fits (c + j) (h j q)))

  -- one by itself
  pub span_one : (c : ℕ) → all_below 1 (fits_from z (spare_only spare) c) ≡ bucket_fits z (spare_only spare) c
  unfolding all_below fits_from
  span_one c = rw add-zero

-- where they lie
module _ {z : Sizes} {spare : List ℕ} (chip : Chip z spare) where
  pub span_inside : (c e : ℕ) → c ≤ e → e ≤ z.c → (c * z.p + (e - c) * z.p) * 16 ≤ length spare
  unfolding spare_size
  span_inside c e h g =
      let at : c + (e - c) ≡ e = omega arith in
      let q : e * z.p ≤ z.c * z.p = mul-le-mul_right z.p g in
      omega (arith, add-mul c (e - c) z.p, ap (λ (k : ℕ). k * z.p) at, chip.spare_length)

-- one more span
module _ (n : ℕ) (t : ℕ → Bool) (c e : ℕ) (start : c ≤ e) where
  joined : all_below e t ≡ (all_below c t && all_below (e - c) (λ j. t (c + j)))
  joined = let at : e ≡ c + (e - c) = omega arith in ap (λ (k : ℕ). all_below k t) at ∙ below_append c (e - c) t

  pub span_more : all_below c t ≡ true → all_below (e - c) (λ j. t (c + j)) ≡ true → all_below e t ≡ true
  span_more h g = joined ∙ and-true h g

  pub span_stops : e ≤ n → all_below (e - c) (λ j. t (c + j)) ≡ false → all_below n t ≡ false
  span_stops within g =
      let at : n ≡ e + (n - e) = omega arith in
      let none : all_below e t ≡ false = joined ∙ (ap (λ (s : Bool). all_below c t && s) g ∙ and_false (all_below c t)) in
      ap (λ (k : ℕ). all_below k t) at ∙ (below_append e (n - e) t ∙ rw none)

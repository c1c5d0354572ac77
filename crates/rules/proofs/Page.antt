-- The rules for a page, by what the page is and where it stands.
use mathlib.Core.Path.{◌≡◌, refl, ◌∙◌}
use mathlib.Core.Bool.{Bool, true, ◌&&◌, ◌||◌, and_assoc}
use mathlib.Core.Bool as bool
use mathlib.Core.Logic.{◌⊎◌, inl, inr, ⊎_elim}
use mathlib.Core.List.{List, [], ◌∷◌}
use Prim.Native.Nat.{ℕ, zero, suc, ◌+◌, ◌-◌, ◌*◌, ◌≤◌, ◌<◌}
use native.Mathlib.Omega.{arith}
use native.Mathlib.Nat.{lt_of_mul-lt-mul_right}
use lib.Dec.{leb, ltb, eqb}
use borrow.Author.Tests.{eqb-true, leb-true, ltb-true, eq-eqb, le-leb, lt-ltb}
use Rattle.lists.specs.Lists.{every, within}
use Rattle.lists.proofs.Tests.{same_truth, and_left, and_right, and-true, or_left, or_second, or_cases, every_at, every_more, every-none, within_low, within_high, within-true}
use Rattle.model.specs.declared.Sizes.{Sizes}
use Rattle.model.specs.Sizes.{Device, bucket_size, pages_for}
use Rattle.model.specs.Spare.{write_kind, kind, ordinal, pages, epoch, back, offset, extent, zeros}
use Rattle.model.specs.Stores.{tag_of}
use Rattle.model.specs.Image.{spans_bucket, fields_fit}
use Rattle.model.proofs.Limits.{pages_hold, pages_least, pages-some}
use Rattle.model.proofs.Rules.{Fields, fields_of, fields_test, Goes, begins, goes_on_lem, Ruled}
use Rattle.rules.specs.Pages.{log_fits, kind_fits, same_bucket, log_goes, fits_at}

-- the pages that a log takes hold its bytes, and one page less would not
pub takes_test : (z : Sizes) → 1 ≤ z.s → (n m : ℕ) → (leb n (m * z.s) && ltb (m * z.s) (n + z.s)) ≡ eqb m (pages_for z n)
takes_test z some n m = same_truth _ _ least holds
  where
    least : (leb n (m * z.s) && ltb (m * z.s) (n + z.s)) ≡ true → eqb m (pages_for z n) ≡ true
    least h =
        let low = leb-true n (m * z.s) (and_left _ _ h) in
        let high = ltb-true (m * z.s) (n + z.s) (and_right (leb n (m * z.s)) _ h) in
        let up : m < suc (pages_for z n) = lt_of_mul-lt-mul_right z.s (omega (arith, pages_hold z n some)) in
        let down : pages_for z n < suc m = lt_of_mul-lt-mul_right z.s (omega (arith, pages_least z n some)) in
        eq-eqb m (pages_for z n) (omega arith)

    holds : eqb m (pages_for z n) ≡ true → (leb n (m * z.s) && ltb (m * z.s) (n + z.s)) ≡ true
    holds h = rw (eqb-true m (pages_for z n) h) (and-true (le-leb _ _ (pages_hold z n some)) (lt-ltb _ _ (pages_least z n some)))

-- tests as the code groups them
grouped_five : (a b c d e : Bool) → (a && b && c && (d && e)) ≡ every (a ∷ b ∷ c ∷ d ∷ e ∷ [])
unfolding every
grouped_five a b c d e = simp (and_assoc, bool.and-true)

pub grouped_log : (a b c d e : Bool) → (a && (b && c && d) && e) ≡ every (a ∷ b ∷ c ∷ d ∷ e ∷ [])
unfolding every
grouped_log a b c d e = simp (and_assoc, bool.and-true)

pub grouped_four : (a b c d : Bool) → (a && (b && c) && d) ≡ every (a ∷ b ∷ c ∷ d ∷ [])
unfolding every
grouped_four a b c d = simp (and_assoc, bool.and-true)

-- ---- the rules for one page, in the parts that are tested

module _ (z : Sizes) (tag : List ℕ) where
  log_tested : Fields z tag → log_fits z tag ≡ true
  unfolding log_fits
  log_tested f = and-true (eq-eqb _ _ f.pages_are) (le-leb _ _ f.bytes_inside)

  kind_tested : Fields z tag → kind_fits z tag ≡ true
  unfolding kind_fits spans_bucket
  kind_tested f = and-true (within-true 1 3 (kind tag) f.kind_low f.kind_high) (go f.whole)
    where
      go : (kind tag ≡ write_kind) ⊎ ((offset tag ≡ 0) × (extent tag ≡ bucket_size z))
          → (eqb (kind tag) write_kind || (eqb (offset tag) 0 && eqb (extent tag) (bucket_size z))) ≡ true
      go (inl e) = or_left _ _ (eq-eqb _ _ e)
      go (inr q) = or_second (eqb (kind tag) write_kind) _ (and-true (eq-eqb _ _ q.0) (eq-eqb _ _ q.1))

  module _ (log : log_fits z tag ≡ true) where
    pub pages_told : pages tag ≡ pages_for z (extent tag)
    unfolding log_fits
    pages_told = eqb-true _ _ (and_left _ _ log)

    pub bytes_told : offset tag + extent tag ≤ bucket_size z
    unfolding log_fits
    bytes_told = leb-true _ _ (and_right (eqb (pages tag) (pages_for z (extent tag))) _ log)

  -- a log has a page
  first_below : 1 ≤ z.s → Fields z tag → ordinal tag ≡ 0 → ordinal tag < pages tag
  unfolding extent
  first_below some f first = omega (arith, first, f.pages_are, pages-some z (extent tag) some (omega arith))

  pub write-fits : kind tag ≡ write_kind → kind_fits z tag ≡ true
  unfolding kind_fits within
  write-fits e = rw e

  pub fields_tested : (leb 1 (epoch tag) && ltb (back tag) z.b && zeros tag && (log_fits z tag && kind_fits z tag)) ≡ fields_fit z tag
  unfolding kind_fits spans_bucket
  fields_tested = grouped_five _ _ _ _ _ ∙ same_truth _ _ tested told
    where
      tests : List Bool
      tests = leb 1 (epoch tag) ∷ ltb (back tag) z.b ∷ zeros tag ∷ log_fits z tag ∷ kind_fits z tag ∷ []

      whole : (eqb (kind tag) write_kind || (eqb (offset tag) 0 && eqb (extent tag) (bucket_size z))) ≡ true
          → (kind tag ≡ write_kind) ⊎ ((offset tag ≡ 0) × (extent tag ≡ bucket_size z))
      whole h = ⊎_elim
          (λ e. inl (eqb-true _ _ e))
          (λ e. inr (eqb-true _ _ (and_left (eqb (offset tag) 0) _ e), eqb-true _ _ (and_right (eqb (offset tag) 0) _ e)))
          (or_cases (eqb (kind tag) write_kind) _ h)

      tested : every tests ≡ true → fields_fit z tag ≡ true
      tested h =
          let t = every_at tests h in
          fields_test z tag (record {
            kind_low = within_low 1 3 (kind tag) (and_left _ _ (t 4));
            kind_high = within_high 1 3 (kind tag) (and_left _ _ (t 4));
            epoch_low = leb-true _ _ (t 0);
            back_below = ltb-true _ _ (t 1);
            zeros_are = t 2;
            pages_are = pages_told (t 3);
            bytes_inside = bytes_told (t 3);
            whole = whole (and_right (within 1 3 (kind tag)) _ (t 4));
          })

      told : fields_fit z tag ≡ true → every tests ≡ true
      told h =
          let f = fields_of z tag h in
          every_more _ _ (le-leb _ _ f.epoch_low)
          (every_more _ _ (lt-ltb _ _ f.back_below)
          (every_more _ _ f.zeros_are
          (every_more _ _ (log_tested f)
          (every_more _ _ (kind_tested f) every-none))))

module _ (z : Sizes) (d : Device) (c : ℕ) where
  -- the test of page k, by where it stands
  pub first_page : fits_at z d c 0 ≡ (fields_fit z (tag_of z d c 0) && eqb (ordinal (tag_of z d c 0)) 0)
  unfolding fits_at
  first_page = refl

  pub later_page : (k : ℕ) → (k ≡ 0 → ⊥) → fits_at z d c k ≡ (same_bucket (tag_of z d c (k - 1)) (tag_of z d c k) && log_goes z (tag_of z d c (k - 1)) (tag_of z d c k))
  unfolding fits_at
  later_page zero n = absurd (n refl)
  later_page (suc k) n = let e : suc k - 1 ≡ k = omega arith in rw e

  -- a page that fits has an ordinal below its log's count
  pub ordinal-fits : 1 ≤ z.s → (k : ℕ) → Ruled z d c k → ordinal (tag_of z d c k) < pages (tag_of z d c k)
  ordinal-fits some k r = go r.goes
    where
      go : Goes z d c k → ordinal (tag_of z d c k) < pages (tag_of z d c k)
      go (begins o w) = first_below z (tag_of z d c k) some r.fields o
      go (goes_on_lem j e p o u n f l) = u

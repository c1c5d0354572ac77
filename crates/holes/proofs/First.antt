-- The page that speaks for a bucket.
use Prim.Native.Nat.{ℕ, zero, suc, ◌+◌, ◌≤◌, ◌<◌}
use mathlib.Core.Path.{◌≡◌, sym, ap, ◌∙◌}
use mathlib.Core.Logic.{⊎_elim}
use mathlib.Core.Bool.{true, false, true≢false}
use native.Mathlib.Omega.{arith}
use native.Mathlib.Numerals.{add-one}
use native.Mathlib.Decide.{ℕ_discrete}
use Rattle.lists.proofs.Tests.{true_or_false, if_true, if_false}
use Rattle.model.specs.declared.Sizes.{Sizes}
use Rattle.model.specs.Sizes.{Device}
use Rattle.model.specs.Stores.{tag_of}
use Rattle.model.specs.Spare.{programmed}
use Rattle.model.specs.Image.{head_tag, bucket_fits, used}
use Rattle.model.specs.Ledger.{first_of, first_tag, occupied}
use Rattle.model.proofs.Tags.{programmed-ff, spoiled_unprogrammed}
use Rattle.model.proofs.Heads.{head_page}
use Rattle.model.proofs.Formed.{unused_none}
use Rattle.image.specs.Chip.{HeadAt}
use Rattle.holes.specs.Found.{Speaks}

module _ (z : Sizes) (d : Device) (c : ℕ) where
  pub none_yet : programmed (first_of z d c 0) ≡ false
  unfolding first_of
  none_yet = programmed-ff

  -- behind pages that are not programmed the next one is taken
  first_more : (k : ℕ) → programmed (first_of z d c k) ≡ false → first_of z d c (k + 1) ≡ tag_of z d c k
  unfolding first_of
  first_more k h = rw (add-one k) (if_false (first_of z d c k) (tag_of z d c k) h)

  pub none_more : (k : ℕ) → programmed (first_of z d c k) ≡ false → programmed (tag_of z d c k) ≡ false → programmed (first_of z d c (k + 1)) ≡ false
  none_more k h b = ap programmed (first_more k h) ∙ b

  none_of : (n : ℕ) → ((k : ℕ) → k < n → programmed (tag_of z d c k) ≡ false) → programmed (first_of z d c n) ≡ false
  none_of zero h = none_yet
  none_of (suc n) h = rw (← add-one n) (none_more n (none_of n (λ k q. h k (omega arith))) (h n (omega arith)))

  -- a programmed page is kept
  first_kept : (n k : ℕ) → k ≤ n → programmed (first_of z d c k) ≡ true → first_of z d c n ≡ first_of z d c k
  unfolding first_of
  first_kept zero k h b = let e : zero ≡ k = omega arith in ap (first_of z d c) e
  first_kept (suc n) k h b = go (ℕ_discrete k (suc n)) (λ g. first_kept n k g b)
    where
      go : Dec (k ≡ suc n) → (k ≤ n → first_of z d c n ≡ first_of z d c k) → first_of z d c (suc n) ≡ first_of z d c k
      go (yes e) more = rw e
      go (no ne) more = let e = more (omega arith) in if_true (first_of z d c n) (tag_of z d c n) (ap programmed e ∙ b) ∙ e

  found_at : (k : ℕ) → k < z.p → programmed (first_of z d c k) ≡ false → programmed (tag_of z d c k) ≡ true → first_tag z d c ≡ tag_of z d c k
  unfolding first_tag
  found_at k h none p = let e = first_more k none in first_kept z.p (k + 1) (omega arith) (ap programmed e ∙ p) ∙ e

  -- in a bucket with a programmed head that one is the first
  pub used_first : 1 ≤ z.p → used z d c ≡ true → first_tag z d c ≡ head_tag z d c
  unfolding used
  used_first p_low u =
      let h = head_page z p_low d c in
      found_at h.page h.inside (none_of h.page (λ i q. spoiled_unprogrammed (tag_of z d c i) (h.before i q))) (sym (ap programmed h.is) ∙ u) ∙ sym h.is

  -- a programmed page has a first one
  pub some_first : (k : ℕ) → k < z.p → programmed (tag_of z d c k) ≡ true → occupied z d c ≡ true
  unfolding occupied first_tag
  some_first k h p = ⊎_elim
      (λ b. ap programmed (first_kept z.p k (omega arith) b) ∙ b)
      (λ b. ap programmed (found_at k h b p) ∙ p)
      (true_or_false (programmed (first_of z d c k)))

  -- ---- the page that speaks

  speaks_at : (k : ℕ) → k < z.p → first_tag z d c ≡ tag_of z d c k → Speaks z d c k
  unfolding occupied
  speaks_at k h e = record { inside = h; tells = ap programmed e; is = λ p. e }

  pub first_at : (k : ℕ) → k < z.p → programmed (first_of z d c k) ≡ false → programmed (tag_of z d c k) ≡ true → Speaks z d c k
  first_at k h none p = speaks_at k h (found_at k h none p)

  -- where no page before the last is programmed, the last one speaks
  pub first_last : (k : ℕ) → k + 1 ≡ z.p → programmed (first_of z d c k) ≡ false → Speaks z d c k
  unfolding first_tag
  first_last k e none = speaks_at k (omega arith) (ap (first_of z d c) (sym e) ∙ first_more k none)

  -- in a bucket made by the page rules the head speaks
  pub head_speaks : (k : ℕ) → bucket_fits z d c ≡ true → HeadAt z d c k → Speaks z d c k
  unfolding used occupied first_tag
  head_speaks k fit h = ⊎_elim
      (λ p. speaks_at k h.inside (used_first (omega (arith, h.inside)) (ap programmed h.is ∙ p) ∙ h.is))
      (λ p. record {
        inside = h.inside;
        tells = none_of z.p (unused_none z d c fit (ap programmed h.is ∙ p)) ∙ sym p;
        is = λ q. absurd (true≢false (sym q ∙ p));
      })
      (true_or_false (programmed (tag_of z d c k)))

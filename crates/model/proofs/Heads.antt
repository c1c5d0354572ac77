-- The page that speaks for its bucket: what is said of a bucket's kind, epoch and back-end bucket goes by these laws, and by no page's number.
use Prim.Native.Nat.{ℕ, zero, suc, ◌-◌, ◌≤◌, ◌<◌}
use mathlib.Core.Path.{◌≡◌, refl, sym, ap, ◌∙◌}
use mathlib.Core.Logic.{◌⊎◌, inl, inr}
use mathlib.Core.Bool.{Bool, true, false, true≢false}
use native.Mathlib.Omega.{arith}
use native.Mathlib.Decide.{ℕ_discrete}
use Rattle.lists.specs.Lists.{ff}
use Rattle.model.specs.declared.Sizes.{Sizes}
use Rattle.model.specs.Sizes.{Device}
use Rattle.model.specs.Stores.{tag_of}
use Rattle.model.specs.Spare.{spoiled, programmed}
use Rattle.model.specs.Image.{head_to, head_tag, bucket_fits, used}
use Rattle.model.proofs.Tags.{spoiled-ff}

module _ (z : Sizes) where
  -- all pages of the bucket are blank
  abbrev pub Blank : Device → ℕ → Type 0
  Blank d c = (k : ℕ) → k < z.p → tag_of z d c k ≡ ff 16

  -- it has no programmed page, and fits
  abbrev pub Vacant : Device → ℕ → Type 0
  Vacant d c = (bucket_fits z d c ≡ true) × (used z d c ≡ false)

  -- ---- the first of n + 1 pages that is not spoiled

  -- its number, and that those before it are spoiled
  pub record First (d : Device) (c n : ℕ) : Type 0 where
    pub page : ℕ
    pub inside : page ≤ n
    pub is : head_to z d c n ≡ tag_of z d c page
    pub before : (i : ℕ) → i < page → spoiled (tag_of z d c i) ≡ true
    pub last : spoiled (tag_of z d c page) ≡ true → page ≡ n

  first_of : (d : Device) (c n : ℕ) → First d c n
  unfolding head_to
  first_of d c zero = record { page = 0; inside = omega arith; is = refl; before = λ i h. absurd (omega arith); last = λ q. refl }
  first_of d c (suc n) = go (spoiled (head_to z d c n)) refl (first_of d c n)
    where
      go : (t : Bool) → spoiled (head_to z d c n) ≡ t → First d c n → First d c (suc n)
      go true e f = record {
        page = suc n;
        inside = omega arith;
        is = rw e;
        before = λ i h. earlier i h (ℕ_discrete i f.page);
        last = λ q. refl;
      }
        where
          at : spoiled (tag_of z d c f.page) ≡ true
          at = sym (ap spoiled f.is) ∙ e

          earlier : (i : ℕ) → i < suc n → Dec (i ≡ f.page) → spoiled (tag_of z d c i) ≡ true
          earlier i h (yes q) = rw q at
          earlier i h (no q) = let last : f.page ≡ n = f.last at in f.before i (omega arith)
      go false e f = record {
        page = f.page;
        inside = omega (arith, f.inside);
        is = rw e f.is;
        before = f.before;
        last = λ q. absurd (true≢false (sym q ∙ (sym (ap spoiled f.is) ∙ e)));
      }

  -- the same pages have the same one
  to_same : (d e : Device) (c n : ℕ) → ((k : ℕ) → k ≤ n → tag_of z e c k ≡ tag_of z d c k) → head_to z e c n ≡ head_to z d c n
  unfolding head_to
  to_same d e c zero same = same 0 (omega arith)
  to_same d e c (suc n) same = rw (to_same d e c n (λ k h. same k (omega arith)), same (suc n) (omega arith))

  -- it is found by the first page that is not spoiled
  to_real : (d : Device) (c j : ℕ) → spoiled (tag_of z d c j) ≡ false → spoiled (head_to z d c j) ≡ false
  to_real d c j h = let f = first_of d c j in go f (ℕ_discrete f.page j)
    where
      go : (f : First d c j) → Dec (f.page ≡ j) → spoiled (head_to z d c j) ≡ false
      go f (yes q) = ap spoiled f.is ∙ rw q h
      go f (no q) = pick (spoiled (tag_of z d c f.page)) refl
        where
          pick : (t : Bool) → spoiled (tag_of z d c f.page) ≡ t → spoiled (head_to z d c j) ≡ false
          pick true r = absurd (q (f.last r))
          pick false r = ap spoiled f.is ∙ r

  -- and pages behind it do not count
  to_settled : (d : Device) (c j n : ℕ) → j ≤ n → spoiled (head_to z d c j) ≡ false → head_to z d c n ≡ head_to z d c j
  unfolding head_to
  to_settled d c j zero h r = let e : 0 ≡ j = omega arith in ap (head_to z d c) e
  to_settled d c j (suc n) h r = go (ℕ_discrete j (suc n)) (λ q. to_settled d c j n q r)
    where
      go : Dec (j ≡ suc n) → (j ≤ n → head_to z d c n ≡ head_to z d c j) → head_to z d c (suc n) ≡ head_to z d c j
      go (yes q) more = ap (head_to z d c) (sym q)
      go (no q) more = let e = more (omega arith) in rw (ap spoiled e ∙ r) e

  -- ---- the head

  -- the same pages have the same head
  pub head-same : 1 ≤ z.p → (d e : Device) (c : ℕ) → ((k : ℕ) → k < z.p → tag_of z e c k ≡ tag_of z d c k) → head_tag z e c ≡ head_tag z d c
  unfolding head_tag
  head-same p_pos d e c same = to_same d e c (z.p - 1) (λ k h. same k (omega arith))

  -- a first page that is not spoiled is the head
  pub head_first : (d : Device) (c : ℕ) → spoiled (tag_of z d c 0) ≡ false → head_tag z d c ≡ tag_of z d c 0
  unfolding head_tag head_to
  head_first d c h = to_settled d c 0 (z.p - 1) (omega arith) h

  -- blank pages have a blank one
  pub head-blank : 1 ≤ z.p → (d : Device) (c : ℕ) → Blank d c → head_tag z d c ≡ ff 16
  head-blank p_pos d c none = let b = none 0 p_pos in head_first d c (ap spoiled b ∙ spoiled-ff) ∙ b

  -- pages behind one that is not spoiled leave the head
  pub head_later : (d e : Device) (c j : ℕ) → j < z.p → spoiled (tag_of z d c j) ≡ false → ((i : ℕ) → i ≤ j → tag_of z e c i ≡ tag_of z d c i) → head_tag z e c ≡ head_tag z d c
  unfolding head_tag
  head_later d e c j hj real same =
      let t : head_to z e c j ≡ head_to z d c j = to_same d e c j same in
      let r : spoiled (head_to z d c j) ≡ false = to_real d c j real in
      to_settled e c j (z.p - 1) (omega arith) (ap spoiled t ∙ r) ∙ (t ∙ sym (to_settled d c j (z.p - 1) (omega arith) r))

  -- where pages become blank the head stays, or is blank
  pub head_blanked : 1 ≤ z.p → (d e : Device) (c : ℕ) → ((k : ℕ) → k < z.p → (tag_of z e c k ≡ tag_of z d c k) ⊎ (tag_of z e c k ≡ ff 16))
      → (head_tag z e c ≡ head_tag z d c) ⊎ (head_tag z e c ≡ ff 16)
  unfolding head_tag head_to
  head_blanked p_pos d e c pages = go (z.p - 1) (omega arith)
    where
      step : (n : ℕ) → (tag_of z e c (suc n) ≡ tag_of z d c (suc n)) ⊎ (tag_of z e c (suc n) ≡ ff 16) → (head_to z e c n ≡ head_to z d c n) ⊎ (head_to z e c n ≡ ff 16)
          → (t : Bool) → spoiled (head_to z d c n) ≡ t → (head_to z e c (suc n) ≡ head_to z d c (suc n)) ⊎ (head_to z e c (suc n) ≡ ff 16)
      step n own (inr q) t r = inr (rw (ap spoiled q ∙ spoiled-ff) q)
      step n (inl p) (inl q) true r = inl (rw (ap spoiled q ∙ r, r) p)
      step n (inr p) (inl q) true r = inr (rw (ap spoiled q ∙ r) p)
      step n own (inl q) false r = inl (rw (ap spoiled q ∙ r, r) q)

      go : (n : ℕ) → n < z.p → (head_to z e c n ≡ head_to z d c n) ⊎ (head_to z e c n ≡ ff 16)
      go zero h = pages 0 h
      go (suc n) h = step n (pages (suc n) h) (go n (omega arith)) (spoiled (head_to z d c n)) refl

  -- the head is a page, and those before it are spoiled
  pub record HeadPage (d : Device) (c : ℕ) : Type 0 where
    pub page : ℕ
    pub inside : page < z.p
    pub is : head_tag z d c ≡ tag_of z d c page
    pub before : (i : ℕ) → i < page → spoiled (tag_of z d c i) ≡ true
    pub last : spoiled (tag_of z d c page) ≡ true → page ≡ z.p - 1

  pub head_page : 1 ≤ z.p → (d : Device) (c : ℕ) → HeadPage d c
  unfolding head_tag
  head_page p_pos d c =
      let f = first_of d c (z.p - 1) in
      record { page = f.page; inside = omega (arith, f.inside); is = f.is; before = f.before; last = f.last }

  -- in a bucket with a page it is programmed
  pub head-programmed : (d : Device) (c : ℕ) → used z d c ≡ true → programmed (head_tag z d c) ≡ true
  unfolding used
  head-programmed d c u = u

-- A bucket page by page: the rules of the book for each, by what the page is.
use Prim.Native.Nat.{ℕ, zero, suc, ◌+◌, ◌-◌, ◌≤◌, ◌<◌}
use mathlib.Core.Path.{◌≡◌, refl, ap}
use mathlib.Core.Bool.{Bool, true, false, not, ◌&&◌, ◌||◌}
use mathlib.Core.List.{List}
use native.Mathlib.Omega.{arith}
use native.Mathlib.Decide.{dec_lt}
use lib.Dec.{leb, ltb, eqb}
use borrow.Author.Tests.{eqb-true, eq-eqb, leb-true, le-leb}
use Rattle.lists.specs.Lists.{all_below}
use Rattle.lists.proofs.Tests.{same_truth, and_left, and_right, and-true, or-true, every_three}
use Rattle.lists.proofs.Rows.{all-below, below_all}
use Rattle.model.specs.declared.Sizes.{Sizes}
use Rattle.model.specs.Sizes.{Device}
use Rattle.model.specs.Spare.{two, blank, spoiled, programmed, write_kind, kind, epoch, back, extent}
use Rattle.model.specs.Stores.{tag_of}
use Rattle.model.specs.Image.{continues, shares, page_spoiled, begins_log, continues_log, is_packed, packed, page_fits, bucket_fits}
use Rattle.model.proofs.Tags.{programmed_real, blank_unprogrammed, spoiled_real, spoiled_unprogrammed}
use Rattle.model.proofs.Rules.{unruled_test}
use Rattle.spare.specs.Fields.{fields}
use Rattle.spare.specs.declared.Fields.{Fields}
use Rattle.image.specs.Chip.{HeadAt}
use Rattle.rules.specs.Pages.{is_behind, ruled, stands}
use Rattle.rules.proofs.Page.{grouped_log}

-- ---- fields of two pages

pub shares_told : (first tag : List ℕ) (g f : Fields) → fields first ≡ g → fields tag ≡ f
    → (eqb f.kind g.kind && eqb f.epoch g.epoch && eqb f.back g.back) ≡ shares first tag
unfolding shares fields
shares_told first tag g f p q = rw (← p, ← q) (every_three (eqb (kind tag) (kind first)) (eqb (epoch tag) (epoch first)) (eqb (back tag) (back first)))

-- a length is one more than what is stored of it
one_more : (m n : ℕ) → eqb m n ≡ eqb (m + 1) (n + 1)
one_more m n = same_truth _ _ (λ h. eq-eqb _ _ (ap (λ (k : ℕ). k + 1) (eqb-true m n h))) (λ h. eq-eqb m n (omega (arith, eqb-true (m + 1) (n + 1) h)))

pub continues_told : (last tag : List ℕ) (g f : Fields) → fields last ≡ g → fields tag ≡ f
    → (eqb f.ordinal (g.ordinal + 1) && (eqb f.pages g.pages && eqb f.offset g.offset && eqb f.last g.last) && ltb f.ordinal f.pages) ≡ continues last tag
unfolding continues fields extent
continues_told last tag g f p q = rw (← p, ← q, one_more (two tag 14) (two last 14)) (grouped_log _ _ _ _ _)

module _ (z : Sizes) (d : Device) (c : ℕ) where
  -- ---- a page behind another

  pub behind_first : (k : ℕ) → k ≡ 0 → is_behind z d c k ≡ true
  unfolding is_behind
  behind_first k e = rw e

  pub behind_later : (k : ℕ) → (k ≡ 0 → ⊥) → is_behind z d c k ≡ not (blank (tag_of z d c (k - 1)))
  unfolding is_behind
  behind_later zero n = absurd (n refl)
  behind_later (suc k) n = let e : suc k - 1 ≡ k = omega arith in rw e

  pub continues_first : (k : ℕ) → k ≡ 0 → continues_log z d c k ≡ false
  unfolding continues_log
  continues_first k e = rw e

  pub continues_later : (k : ℕ) → (k ≡ 0 → ⊥) → continues_log z d c k ≡ (programmed (tag_of z d c (k - 1)) && continues (tag_of z d c (k - 1)) (tag_of z d c k))
  unfolding continues_log
  continues_later zero n = absurd (n refl)
  continues_later (suc k) n = let e : suc k - 1 ≡ k = omega arith in rw e

  -- ---- a page that begins a log

  -- the pages before one are spoiled just where it is not behind the head
  spoiled_before : (k h : ℕ) → k < z.p → HeadAt z d c h → all_below k (page_spoiled z d c) ≡ leb k h
  unfolding page_spoiled
  spoiled_before k h inside at = same_truth _ _
      (λ all. le-leb k h (low (dec_lt h k) (all-below k (page_spoiled z d c) all)))
      (λ e. below_all k (page_spoiled z d c) (λ i q. at.before i (omega (arith, leb-true k h e))))
    where
      low : Dec (h < k) → ((i : ℕ) → i < k → spoiled (tag_of z d c i) ≡ true) → k ≤ h
      low (yes g) all = omega (arith, at.last (all h g))
      low (no g) all = omega arith

  pub begins_told : (k h : ℕ) (f : Fields) → k < z.p → HeadAt z d c h → fields (tag_of z d c k) ≡ f
      → (eqb f.ordinal 0 && (eqb f.kind write_kind || leb k h)) ≡ begins_log z d c k
  unfolding begins_log fields
  begins_told k h f inside at e = rw (← e, spoiled_before k h inside at)

  -- ---- the rules by what the page is

  -- a page that is not blank is behind no blank one
  packed-used : (k : ℕ) → blank (tag_of z d c k) ≡ false → is_packed z d c k ≡ is_behind z d c k
  unfolding is_packed is_behind
  packed-used zero e = refl
  packed-used (suc k) e = rw e (or_none (not (blank (tag_of z d c k))))
    where
      or_none : (t : Bool) → t || false ≡ t
      or_none true = refl
      or_none false = refl

  packed-blank : (k : ℕ) → blank (tag_of z d c k) ≡ true → is_packed z d c k ≡ true
  unfolding is_packed
  packed-blank zero e = refl
  packed-blank (suc k) e = rw e (or-true (not (blank (tag_of z d c k))))

  pub stands-blank : (k : ℕ) → blank (tag_of z d c k) ≡ true → stands z d c k ≡ true
  unfolding stands
  stands-blank k e = and-true (packed-blank k e) (unruled_test z d c k (blank_unprogrammed (tag_of z d c k) e))

  pub stands-spoiled : (k : ℕ) → spoiled (tag_of z d c k) ≡ true → stands z d c k ≡ is_behind z d c k
  unfolding stands
  stands-spoiled k e = rw (packed-used k (spoiled_real (tag_of z d c k) e), unruled_test z d c k (spoiled_unprogrammed (tag_of z d c k) e)) (and_all (is_behind z d c k))
    where
      and_all : (t : Bool) → t && true ≡ t
      and_all true = refl
      and_all false = refl

  pub stands-programmed : (k : ℕ) → programmed (tag_of z d c k) ≡ true → stands z d c k ≡ (is_behind z d c k && ruled z d c k)
  unfolding stands page_fits ruled
  stands-programmed k e = rw (packed-used k (programmed_real (tag_of z d c k) e).0, e)

  -- ---- all pages

  pub bucket_stands : bucket_fits z d c ≡ all_below z.p (stands z d c)
  unfolding bucket_fits packed stands
  bucket_stands = same_truth _ _
      (λ h. below_all z.p (stands z d c) (λ k q. and-true
      (all-below z.p (is_packed z d c) (and_left (packed z d c) _ h) k q)
      (all-below z.p (page_fits z d c) (and_right (packed z d c) _ h) k q)))
      (λ h. let t = all-below z.p (stands z d c) h in and-true
      (below_all z.p (is_packed z d c) (λ k q. and_left (is_packed z d c k) _ (t k q)))
      (below_all z.p (page_fits z d c) (λ k q. and_right (is_packed z d c k) _ (t k q))))

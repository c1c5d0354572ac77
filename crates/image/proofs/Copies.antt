-- A Read or Dirty bucket is one log: its last page tells whether all are programmed.
use Prim.Native.Nat.{ℕ, zero, suc, ◌+◌, ◌-◌, ◌<◌}
use mathlib.Core.Path.{◌≡◌, sym, ap, ◌∙◌}
use mathlib.Core.Logic.{◌⊎◌, inl, inr}
use mathlib.Core.Bool.{true, not, ◌&&◌, true≢false}
use native.Mathlib.Omega.{arith}
use borrow.Author.Tests.{eqb-true, eq-eqb}
use lib.Dec.{eqb}
use Rattle.lists.specs.Lists.{all_below}
use Rattle.lists.proofs.Rows.{all-below, below_all}
use Rattle.lists.proofs.Tests.{and_left, and_right, and-true, same_truth}
use Rattle.model.specs.declared.Sizes.{Sizes}
use Rattle.model.specs.Sizes.{Device, bucket_size, pages_for}
use Rattle.model.specs.Stores.{tag_of}
use Rattle.model.specs.Spare.{programmed, write_kind, kind, ordinal, pages, offset, extent}
use Rattle.model.specs.Image.{head_tag, bucket_fits, used, is_copy, page_programmed, complete, ends_log}
use Rattle.model.proofs.Limits.{Limits, pages_whole}
use Rattle.model.proofs.Tags.{programmed_real}
use Rattle.model.proofs.Rules.{Fields, Goes, begins, goes_on_lem}
use Rattle.model.proofs.Formed.{page_ruled, page_fields, kind_shared}
use Rattle.model.proofs.Heads.{head_first}

module _ (z : Sizes) (d : Device) (c : ℕ) (limits : Limits z) (fit : bucket_fits z d c ≡ true) where
  module _ (other : kind (head_tag z d c) ≡ write_kind → ⊥) where
    -- its log has P pages
    whole : (k : ℕ) → k < z.p → programmed (tag_of z d c k) ≡ true → pages (tag_of z d c k) ≡ z.p
    whole k hk p = go f.whole
      where
        f : Fields z (tag_of z d c k)
        f = page_fields z d c fit k hk p

        go : (kind (tag_of z d c k) ≡ write_kind) ⊎ ((offset (tag_of z d c k) ≡ 0) × (extent (tag_of z d c k) ≡ bucket_size z)) → pages (tag_of z d c k) ≡ z.p
        go (inl e) = absurd (other (sym (kind_shared z d c fit k hk p) ∙ e))
        go (inr e) = f.pages_are ∙ (ap (pages_for z) e.1 ∙ pages_whole z (omega (arith, limits.s_low)))

    -- programmed from the first on, its pages are numbered
    numbered : ((k : ℕ) → k < z.p → programmed (tag_of z d c k) ≡ true) → (k : ℕ) → k < z.p → ordinal (tag_of z d c k) ≡ k
    numbered all zero hk = go (page_ruled z d c fit 0 hk (all 0 hk)).goes
      where
        go : Goes z d c 0 → ordinal (tag_of z d c 0) ≡ 0
        go (begins o w) = o
        go (goes_on_lem j e p o u n f l) = absurd (omega arith)
    numbered all (suc k) hk = go (page_ruled z d c fit (suc k) hk (all (suc k) hk)).goes (numbered all k (omega arith))
      where
        go : Goes z d c (suc k) → ordinal (tag_of z d c k) ≡ k → ordinal (tag_of z d c (suc k)) ≡ suc k
        go (begins o (inl w)) before = absurd (other (sym (kind_shared z d c fit (suc k) hk (all (suc k) hk)) ∙ w))
        go (begins o (inr w)) before = absurd (true≢false (sym (w 0 (omega arith)) ∙ (programmed_real (tag_of z d c 0) (all 0 (omega arith))).1))
        go (goes_on_lem j e p o u n f l) before = let i : j ≡ k = omega arith in omega (arith, rw i at o, before)

  -- a page with its own number as ordinal has all pages before it
  backwards : (n k : ℕ) → k + n < z.p → programmed (tag_of z d c (k + n)) ≡ true → ordinal (tag_of z d c (k + n)) ≡ k + n → programmed (tag_of z d c k) ≡ true
  backwards zero k h p o = let e : k + 0 ≡ k = omega arith in rw e at p
  backwards (suc n) k h p o = go (page_ruled z d c fit (k + suc n) h p).goes (backwards n k (omega arith))
    where
      go : Goes z d c (k + suc n) → (programmed (tag_of z d c (k + n)) ≡ true → ordinal (tag_of z d c (k + n)) ≡ k + n → programmed (tag_of z d c k) ≡ true) → programmed (tag_of z d c k) ≡ true
      go (begins b w) more = absurd (omega arith)
      go (goes_on_lem j e q b u m f l) more = let i : j ≡ k + n = omega arith in more (rw i at q) (omega (arith, rw i at b))

  complete_ends : complete z d c ≡ (is_copy z d c && ends_log z d c (z.p - 1))
  unfolding complete is_copy used page_programmed ends_log
  complete_ends = same_truth _ _
      (λ h. let copy = and_left (is_copy z d c) _ h in and-true copy (forth (no_write copy) (all-below z.p (page_programmed z d c) (and_right (is_copy z d c) _ h))))
      (λ h. let copy = and_left (is_copy z d c) _ h in and-true copy (back (no_write copy) (and_right (is_copy z d c) _ h)))
    where
      no_write : is_copy z d c ≡ true → kind (head_tag z d c) ≡ write_kind → ⊥
      no_write h e = true≢false (sym (and_right (programmed (head_tag z d c)) _ h) ∙ ap not (eq-eqb _ _ e))

      last : z.p - 1 < z.p
      last = omega (arith, limits.p_low)

      forth : (kind (head_tag z d c) ≡ write_kind → ⊥) → ((k : ℕ) → k < z.p → programmed (tag_of z d c k) ≡ true) → ends_log z d c (z.p - 1) ≡ true
      forth other all =
          let n = whole other (z.p - 1) last (all (z.p - 1) last) in
          and-true (all (z.p - 1) last) (eq-eqb (ordinal (tag_of z d c (z.p - 1)) + 1) (pages (tag_of z d c (z.p - 1))) (omega (arith, last, n, numbered other all (z.p - 1) last)))

      back : (kind (head_tag z d c) ≡ write_kind → ⊥) → ends_log z d c (z.p - 1) ≡ true → all_below z.p (page_programmed z d c) ≡ true
      back other h =
          let p = and_left (programmed (tag_of z d c (z.p - 1))) _ h in
          let o = eqb-true (ordinal (tag_of z d c (z.p - 1)) + 1) (pages (tag_of z d c (z.p - 1))) (and_right (programmed (tag_of z d c (z.p - 1))) _ h) in
          let n = whole other (z.p - 1) last p in
          below_all z.p (page_programmed z d c) (λ k hk.
          let e : k + (z.p - 1 - k) ≡ z.p - 1 = omega arith in
          backwards (z.p - 1 - k) k (omega arith) (rw e p) (rw e (omega (arith, o, n))))

  -- it has its first page as its head
  pub complete-head : complete z d c ≡ true → head_tag z d c ≡ tag_of z d c 0
  unfolding complete page_programmed
  complete-head h = head_first z d c (programmed_real (tag_of z d c 0) (all-below z.p (page_programmed z d c) (and_right (is_copy z d c) _ h) 0 limits.p_low)).1

  -- so that page tells, and the last one
  pub complete_first : complete z d c ≡ (programmed (tag_of z d c 0) && not (eqb (kind (tag_of z d c 0)) write_kind)) && ends_log z d c (z.p - 1)
  unfolding is_copy used
  complete_first = same_truth _ _
      (λ h. rw (complete-head h) at (sym complete_ends ∙ h))
      (λ h. let p = and_left (programmed (tag_of z d c 0)) _ (and_left (programmed (tag_of z d c 0) && not (eqb (kind (tag_of z d c 0)) write_kind)) _ h) in
      complete_ends ∙ rw (head_first z d c (programmed_real (tag_of z d c 0) p).1) h)

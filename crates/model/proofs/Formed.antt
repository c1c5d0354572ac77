-- What a body_formed image says of its tags, page by page and bucket by bucket.
use Prim.Native.Nat.{ℕ, zero, suc, ◌+◌, ◌-◌, ◌*◌, ◌≤◌, ◌<◌}
use mathlib.Core.Path.{◌≡◌, refl, sym, ap, ◌∙◌}
use mathlib.Core.Logic.{◌⊎◌, inl, inr}
use mathlib.Core.Bool.{Bool, true, false, not, ◌||◌, true≢false}
use native.Mathlib.Omega.{arith}
use native.Mathlib.Nat.{add-mul}
use native.Mathlib.Decide.{ℕ_discrete, dec_lt}
use lib.Dec.{leb}
use borrow.Author.Tests.{eqb-true, le-leb, lt-leb}
use Rattle.lists.specs.Lists.{all_below, ff}
use Rattle.lists.proofs.Tests.{and_left, and_right, and-true, or_left, or_right, or_second}
use Rattle.lists.proofs.Rows.{all-below, below_all, count_last, max-below, max_least}
use Rattle.lists.proofs.Distinct.{distinct_differ, differ_distinct}
use Rattle.model.specs.declared.Sizes.{Sizes}
use Rattle.model.specs.Sizes.{Device, body}
use Rattle.model.specs.Stores.{tag_of}
use Rattle.model.specs.Spare.{blank, spoiled, programmed, kind, ordinal, pages, epoch, back, extent}
use Rattle.model.specs.Image.{head_tag, page_fits, is_packed, packed, bucket_fits, used, epoch_of, body_fits, page_blank, blanks, ends_log}
use Rattle.model.specs.State.{entry_epoch, top_epoch}
use Rattle.model.proofs.Limits.{pages_hold}
use Rattle.model.proofs.Tags.{blank-true, unprogrammed, spoiled_unprogrammed, blank_unprogrammed}
use Rattle.model.proofs.Rules.{Fields, Goes, begins, goes_on_lem, Ruled, ruled_of}
use Rattle.model.proofs.Heads.{Blank, HeadPage, head_page, head-programmed}

-- ---- number 4, bucket by bucket

pub record Formed (z : Sizes) (d : Device) : Type 0 where
  pub buckets_fit : (c : ℕ) → c < body z → bucket_fits z d c ≡ true
  pub epochs_differ : (c e : ℕ) → c < body z → e < body z → used z d c ≡ true → used z d e ≡ true → epoch_of z d c ≡ epoch_of z d e → c ≡ e

module _ (z : Sizes) (d : Device) where
  pub formed_of : body_fits z d ≡ true → Formed z d
  unfolding body_fits
  formed_of h = record {
    buckets_fit = all-below (body z) (bucket_fits z d) (and_left (all_below (body z) (bucket_fits z d)) _ h);
    epochs_differ = distinct_differ (used z d) (epoch_of z d) (body z) (and_right (all_below (body z) (bucket_fits z d)) _ h);
  }

  pub formed_test : Formed z d → body_fits z d ≡ true
  unfolding body_fits
  formed_test f = and-true (below_all (body z) (bucket_fits z d) f.buckets_fit) (differ_distinct (used z d) (epoch_of z d) (body z) f.epochs_differ)

  -- ---- epochs

  pub epoch_top : (c : ℕ) → c < body z → epoch_of z d c ≤ top_epoch z d
  unfolding top_epoch
  epoch_top c hc = omega (arith, max-below (body z) (epoch_of z d) c hc)

  pub entry_top : (i : ℕ) → i < 2 * z.p → entry_epoch z d i ≤ top_epoch z d
  unfolding top_epoch
  entry_top i hi = omega (arith, max-below (2 * z.p) (entry_epoch z d) i hi)

  pub top_least : (m : ℕ) → ((c : ℕ) → c < body z → epoch_of z d c ≤ m) → ((i : ℕ) → i < 2 * z.p → entry_epoch z d i ≤ m) → top_epoch z d ≤ m
  unfolding top_epoch
  top_least m h k = omega (arith, max_least (body z) (epoch_of z d) m h, max_least (2 * z.p) (entry_epoch z d) m k)

  -- ---- the pages of one bucket

  -- from its pages
  pub fits_test : (c : ℕ) → ((k : ℕ) → suc k < z.p → blank (tag_of z d c k) ≡ true → blank (tag_of z d c (suc k)) ≡ true) → ((k : ℕ) → k < z.p → page_fits z d c k ≡ true) → bucket_fits z d c ≡ true
  unfolding bucket_fits packed is_packed
  fits_test c next fit = and-true (below_all z.p (is_packed z d c) behind) (below_all z.p (page_fits z d c) fit)
    where
      behind : (k : ℕ) → k < z.p → is_packed z d c k ≡ true
      behind zero h = refl
      behind (suc k) h = go (blank (tag_of z d c k)) refl
        where
          go : (t : Bool) → blank (tag_of z d c k) ≡ t → not (blank (tag_of z d c k)) || blank (tag_of z d c (suc k)) ≡ true
          go true e = or_second (not (blank (tag_of z d c k))) _ (next k h e)
          go false e = or_left (not (blank (tag_of z d c k))) _ (rw e)

  module _ (c : ℕ) (fit : bucket_fits z d c ≡ true) where
    pub page_fits_lem : (k : ℕ) → k < z.p → page_fits z d c k ≡ true
    unfolding bucket_fits
    page_fits_lem = all-below z.p (page_fits z d c) (and_right (packed z d c) _ fit)

    pub page_ruled : (k : ℕ) → k < z.p → programmed (tag_of z d c k) ≡ true → Ruled z d c k
    page_ruled k hk p = ruled_of z d c k (page_fits_lem k hk) p

    pub page_fields : (k : ℕ) → k < z.p → programmed (tag_of z d c k) ≡ true → Fields z (tag_of z d c k)
    page_fields k hk p = (page_ruled k hk p).fields

    -- blank pages come only at the end
    pub used_before : (k j : ℕ) → k ≤ j → j < z.p → blank (tag_of z d c j) ≡ false → blank (tag_of z d c k) ≡ false
    unfolding bucket_fits packed is_packed
    used_before k zero h hj nb = ap (λ (i : ℕ). blank (tag_of z d c i)) (omega arith) ∙ nb
    used_before k (suc j) h hj nb = go (ℕ_discrete k (suc j)) (used_before k j)
      where
        behind : blank (tag_of z d c j) ≡ false
        behind = pick (blank (tag_of z d c j)) refl (all-below z.p (is_packed z d c) (and_left (packed z d c) _ fit) (suc j) hj)
          where
            pick : (t : Bool) → blank (tag_of z d c j) ≡ t → not (blank (tag_of z d c j)) || blank (tag_of z d c (suc j)) ≡ true → blank (tag_of z d c j) ≡ false
            pick false e q = e
            pick true e q = absurd (true≢false (sym (or_right (not (blank (tag_of z d c j))) _ q (rw e)) ∙ nb))

        go : Dec (k ≡ suc j) → (k ≤ j → j < z.p → blank (tag_of z d c j) ≡ false → blank (tag_of z d c k) ≡ false) → blank (tag_of z d c k) ≡ false
        go (yes e) r = rw e nb
        go (no ne) r = r (omega arith) (omega arith) behind

    pub blank-after : (k j : ℕ) → k ≤ j → j < z.p → blank (tag_of z d c k) ≡ true → blank (tag_of z d c j) ≡ true
    blank-after k j h hj e = go (blank (tag_of z d c j)) refl
      where
        go : (t : Bool) → blank (tag_of z d c j) ≡ t → blank (tag_of z d c j) ≡ true
        go true q = q
        go false q = absurd (true≢false (sym e ∙ used_before k j h hj q))

    pub blank_from_lem : (k : ℕ) → k < z.p → blank (tag_of z d c k) ≡ leb (z.p - blanks z d c) k
    unfolding blanks page_blank
    blank_from_lem k hk = count_last z.p (page_blank z d c) (λ i j h hj. blank-after i j h hj) k hk

    pub blank_end : (k : ℕ) → z.p - blanks z d c ≤ k → k < z.p → tag_of z d c k ≡ ff 16
    blank_end k h hk = blank-true (tag_of z d c k) (blank_from_lem k hk ∙ le-leb _ k h)

    pub used_start : (k : ℕ) → k < z.p - blanks z d c → blank (tag_of z d c k) ≡ false
    used_start k h = blank_from_lem k (omega arith) ∙ lt-leb _ k h

    -- a bucket whose first page is blank has blank pages alone
    pub first_blank : blank (tag_of z d c 0) ≡ true → Blank z d c
    first_blank b k hk = blank-true (tag_of z d c k) (blank-after 0 k (omega arith) hk b)

    -- one without a head has no programmed page
    pub unused_none : used z d c ≡ false → (k : ℕ) → k < z.p → programmed (tag_of z d c k) ≡ false
    unfolding used
    unused_none u k hk = go (ℕ_discrete k h.page) (dec_lt k h.page) (unprogrammed (tag_of z d c h.page) (sym (ap programmed h.is) ∙ u))
      where
        h : HeadPage z d c
        h = head_page z (omega arith) d c

        go : Dec (k ≡ h.page) → Dec (k < h.page) → (blank (tag_of z d c h.page) ≡ true) ⊎ (spoiled (tag_of z d c h.page) ≡ true) → programmed (tag_of z d c k) ≡ false
        go (yes q) o w = rw q (sym (ap programmed h.is) ∙ u)
        go (no q) (yes o) w = spoiled_unprogrammed (tag_of z d c k) (h.before k o)
        go (no q) (no o) (inl b) = blank_unprogrammed (tag_of z d c k) (blank-after h.page k (omega arith) hk b)
        go (no q) (no o) (inr s) = absurd (q (omega (arith, h.last s)))

    pub used-some : (k : ℕ) → k < z.p → programmed (tag_of z d c k) ≡ true → used z d c ≡ true
    used-some k hk p = go (used z d c) refl
      where
        go : (t : Bool) → used z d c ≡ t → used z d c ≡ true
        go true e = e
        go false e = absurd (true≢false (sym p ∙ unused_none e k hk))

    -- the programmed pages share kind, epoch and back-end bucket with the head
    pub kind_shared : (k : ℕ) → k < z.p → programmed (tag_of z d c k) ≡ true → kind (tag_of z d c k) ≡ kind (head_tag z d c)
    kind_shared k hk p = (page_ruled k hk p).kind-same

    pub epoch_shared : (k : ℕ) → k < z.p → programmed (tag_of z d c k) ≡ true → epoch (tag_of z d c k) ≡ epoch (head_tag z d c)
    epoch_shared k hk p = (page_ruled k hk p).epoch-same

    pub back_shared : (k : ℕ) → k < z.p → programmed (tag_of z d c k) ≡ true → back (tag_of z d c k) ≡ back (head_tag z d c)
    back_shared k hk p = (page_ruled k hk p).back-same

    -- ---- logs

    pub ordinal_le : (k : ℕ) → k < z.p → programmed (tag_of z d c k) ≡ true → ordinal (tag_of z d c k) ≤ k
    ordinal_le zero hk p = go (page_ruled 0 hk p).goes
      where
        go : Goes z d c 0 → ordinal (tag_of z d c 0) ≤ 0
        go (begins o w) = omega arith
        go (goes_on_lem j e p o u n f l) = absurd (omega arith)
    ordinal_le (suc k) hk p = go (page_ruled (suc k) hk p).goes (λ q. ordinal_le k (omega arith) q)
      where
        go : Goes z d c (suc k) → (programmed (tag_of z d c k) ≡ true → ordinal (tag_of z d c k) ≤ k) → ordinal (tag_of z d c (suc k)) ≤ suc k
        go (begins o w) r = omega arith
        go (goes_on_lem j e q o u n f l) r = let i : j ≡ k = omega arith in omega (arith, rw i at o, r (rw i at q))

    pub ends_programmed : (k : ℕ) → ends_log z d c k ≡ true → programmed (tag_of z d c k) ≡ true
    unfolding ends_log
    ends_programmed k h = and_left (programmed (tag_of z d c k)) _ h

    -- a log that ends in page k has all its pages in the bucket, and its bytes in them
    pub log_pages : (k : ℕ) → k < z.p → ends_log z d c k ≡ true → pages (tag_of z d c k) ≤ k + 1
    unfolding ends_log
    log_pages k hk h =
        let e : ordinal (tag_of z d c k) + 1 ≡ pages (tag_of z d c k) = eqb-true _ _ (and_right (programmed (tag_of z d c k)) _ h) in
        omega (arith, ordinal_le k hk (ends_programmed k h))

    pub log_inside : 1 ≤ z.s → (k : ℕ) → k < z.p → ends_log z d c k ≡ true
        → (k + 1 - pages (tag_of z d c k)) * z.s + extent (tag_of z d c k) ≤ (k + 1) * z.s
    log_inside hs k hk h =
        let n : ℕ = pages (tag_of z d c k) in
        let holds : extent (tag_of z d c k) ≤ n * z.s = rw (page_fields k hk (ends_programmed k h)).pages_are (pages_hold z (extent (tag_of z d c k)) hs) in
        let split : (k + 1 - n) * z.s + n * z.s ≡ (k + 1) * z.s =
        sym (add-mul (k + 1 - n) n z.s) ∙ ap (λ (x : ℕ). x * z.s) (omega (arith, log_pages k hk h)) in
        omega arith

  -- ---- a bucket's epoch

  pub epoch-used : (c : ℕ) → used z d c ≡ true → epoch_of z d c ≡ epoch (head_tag z d c)
  unfolding epoch_of
  epoch-used c h = rw h

  pub epoch_unused : (c : ℕ) → used z d c ≡ false → epoch_of z d c ≡ 0
  unfolding epoch_of
  epoch_unused c h = rw h

  -- a bucket has an epoch just where it has a page
  pub epoch-some : Formed z d → 1 ≤ z.p → (c : ℕ) → c < body z → used z d c ≡ true → 1 ≤ epoch_of z d c
  epoch-some f hp c hc h =
      let p = head_page z hp d c in
      rw (epoch-used c h, p.is) (page_fields c (f.buckets_fit c hc) p.page p.inside (sym (ap programmed p.is) ∙ head-programmed z d c h)).epoch_low

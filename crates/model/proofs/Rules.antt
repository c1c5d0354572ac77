-- The page rules of number 4 as facts: of one tag, and of a page in its bucket.
use Prim.Native.Nat.{ℕ, zero, suc, ◌+◌, ◌≤◌, ◌<◌}
use mathlib.Core.Path.{◌≡◌, refl, sym, subst}
use mathlib.Core.Logic.{◌⊎◌, inl, inr}
use mathlib.Core.Bool.{Bool, true, false, not, ◌&&◌, ◌||◌, true≢false}
use mathlib.Core.List.{List}
use native.Mathlib.Omega.{arith}
use lib.Dec.{eqb}
use borrow.Author.Tests.{eqb-true, leb-true, ltb-true, eq-eqb, le-leb, lt-ltb}
use Rattle.lists.specs.Lists.{all_below}
use Rattle.lists.proofs.Tests.{and_left, and_right, and-true, or_left, or_right, or_second, or-true, or_cases, every_at, every_more, every-none, within_low, within_high, within-true}
use Rattle.lists.proofs.Rows.{all-below, below_all}
use Rattle.model.specs.declared.Sizes.{Sizes}
use Rattle.model.specs.Sizes.{Device, bucket_size, pages_for}
use Rattle.model.specs.Stores.{tag_of}
use Rattle.model.specs.Spare.{spoiled, programmed, write_kind, kind, ordinal, pages, epoch, back, offset, extent, zeros}
use Rattle.model.specs.Image.{continues, shares, spans_bucket, fields_fit, head_tag, page_spoiled, begins_log, continues_log, page_fits}
use Rattle.model.proofs.Tags.{kind_real}

-- of one programmed page
pub record Fields (z : Sizes) (tag : List ℕ) : Type 0 where
  pub kind_low : 1 ≤ kind tag
  pub kind_high : kind tag ≤ 3
  pub epoch_low : 1 ≤ epoch tag
  pub back_below : back tag < z.b
  pub zeros_are : zeros tag ≡ true
  pub pages_are : pages tag ≡ pages_for z (extent tag)
  pub bytes_inside : offset tag + extent tag ≤ bucket_size z
  pub whole : (kind tag ≡ write_kind) ⊎ ((offset tag ≡ 0) × (extent tag ≡ bucket_size z))

pub fields_of : (z : Sizes) (tag : List ℕ) → fields_fit z tag ≡ true → Fields z tag
unfolding fields_fit spans_bucket
fields_of z tag h = record {
  kind_low = within_low 1 3 (kind tag) (every_at _ h 0);
  kind_high = within_high 1 3 (kind tag) (every_at _ h 0);
  epoch_low = leb-true _ _ (every_at _ h 1);
  back_below = ltb-true _ _ (every_at _ h 2);
  zeros_are = every_at _ h 3;
  pages_are = eqb-true _ _ (every_at _ h 4);
  bytes_inside = leb-true _ _ (every_at _ h 5);
  whole = go (eqb (kind tag) write_kind) refl (every_at _ h 6);
}
  where
    go : (t : Bool) → eqb (kind tag) write_kind ≡ t → t || (eqb (offset tag) 0 && eqb (extent tag) (bucket_size z)) ≡ true
        → (kind tag ≡ write_kind) ⊎ ((offset tag ≡ 0) × (extent tag ≡ bucket_size z))
    go true e q = inl (eqb-true _ _ e)
    go false e q = inr (eqb-true _ _ (and_left (eqb (offset tag) 0) _ q), eqb-true _ _ (and_right (eqb (offset tag) 0) _ q))

pub fields_test : (z : Sizes) (tag : List ℕ) → Fields z tag → fields_fit z tag ≡ true
unfolding fields_fit spans_bucket
fields_test z tag f =
    every_more _ _ (within-true 1 3 (kind tag) f.kind_low f.kind_high)
    (every_more _ _ (le-leb _ _ f.epoch_low)
    (every_more _ _ (lt-ltb _ _ f.back_below)
    (every_more _ _ f.zeros_are
    (every_more _ _ (eq-eqb _ _ f.pages_are)
    (every_more _ _ (le-leb _ _ f.bytes_inside)
    (every_more _ _ (go f.whole) every-none))))))
  where
    go : (kind tag ≡ write_kind) ⊎ ((offset tag ≡ 0) × (extent tag ≡ bucket_size z))
        → eqb (kind tag) write_kind || (eqb (offset tag) 0 && eqb (extent tag) (bucket_size z)) ≡ true
    go (inl e) = or_left _ _ (eq-eqb _ _ e)
    go (inr q) = rw (eq-eqb (offset tag) 0 q.0, eq-eqb (extent tag) (bucket_size z) q.1) (or-true (eqb (kind tag) write_kind))

pub shares_test : (first tag : List ℕ) → kind tag ≡ kind first → epoch tag ≡ epoch first → back tag ≡ back first → shares first tag ≡ true
unfolding shares
shares_test first tag k e b = every_more _ _ (eq-eqb _ _ k) (every_more _ _ (eq-eqb _ _ e) (every_more _ _ (eq-eqb _ _ b) every-none))

-- ---- a page in its bucket

module _ (z : Sizes) (d : Device) (c : ℕ) where
  -- page k begins a log, or goes on with that of the page before it
  pub data Goes (k : ℕ) : Type 0 where
    begins : ordinal (tag_of z d c k) ≡ 0 → (kind (tag_of z d c k) ≡ write_kind) ⊎ ((j : ℕ) → j < k → spoiled (tag_of z d c j) ≡ true) → Goes k
    goes_on_lem : (j : ℕ) → k ≡ suc j → programmed (tag_of z d c j) ≡ true → ordinal (tag_of z d c k) ≡ ordinal (tag_of z d c j) + 1 → ordinal (tag_of z d c k) < pages (tag_of z d c k)
        → pages (tag_of z d c k) ≡ pages (tag_of z d c j) → offset (tag_of z d c k) ≡ offset (tag_of z d c j) → extent (tag_of z d c k) ≡ extent (tag_of z d c j) → Goes k

  -- the rules for page k, which is programmed
  pub record Ruled (k : ℕ) : Type 0 where
    pub fields : Fields z (tag_of z d c k)
    pub kind-same : kind (tag_of z d c k) ≡ kind (head_tag z d c)
    pub epoch-same : epoch (tag_of z d c k) ≡ epoch (head_tag z d c)
    pub back-same : back (tag_of z d c k) ≡ back (head_tag z d c)
    pub goes : Goes k

  goes_of : (k : ℕ) → begins_log z d c k || continues_log z d c k ≡ true → Goes k
  unfolding begins_log continues_log continues page_spoiled
  goes_of k h = go (or_cases (begins_log z d c k) (continues_log z d c k) h)
    where
      starts : begins_log z d c k ≡ true → Goes k
      starts q =
          let r = and_right (eqb (ordinal (tag_of z d c k)) 0) _ q in
          begins (eqb-true _ _ (and_left (eqb (ordinal (tag_of z d c k)) 0) _ q)) (pick (or_cases _ _ r))
        where
          pick : (eqb (kind (tag_of z d c k)) write_kind ≡ true) ⊎ (all_below k (page_spoiled z d c) ≡ true) → (kind (tag_of z d c k) ≡ write_kind) ⊎ ((j : ℕ) → j < k → spoiled (tag_of z d c j) ≡ true)
          pick (inl w) = inl (eqb-true _ _ w)
          pick (inr w) = inr (all-below k (page_spoiled z d c) w)

      later : (n : ℕ) → k ≡ n → continues_log z d c n ≡ true → Goes k
      later zero e q = absurd (true≢false (sym q))
      later (suc j) e q =
          let r = and_right (programmed (tag_of z d c j)) _ q in
          goes_on_lem j e (and_left (programmed (tag_of z d c j)) _ q)
          (rw e (eqb-true _ _ (every_at _ r 0))) (rw e (ltb-true _ _ (every_at _ r 4))) (rw e (eqb-true _ _ (every_at _ r 1)))
          (rw e (eqb-true _ _ (every_at _ r 2))) (rw e (eqb-true _ _ (every_at _ r 3)))

      go : (begins_log z d c k ≡ true) ⊎ (continues_log z d c k ≡ true) → Goes k
      go (inl q) = starts q
      go (inr q) = later k refl q

  goes_test : (k : ℕ) → Goes k → begins_log z d c k || continues_log z d c k ≡ true
  unfolding begins_log continues_log continues page_spoiled
  goes_test k (begins o w) = or_left (begins_log z d c k) (continues_log z d c k) (and-true (eq-eqb _ _ o) (pick w))
    where
      pick : (kind (tag_of z d c k) ≡ write_kind) ⊎ ((j : ℕ) → j < k → spoiled (tag_of z d c j) ≡ true) → eqb (kind (tag_of z d c k)) write_kind || all_below k (page_spoiled z d c) ≡ true
      pick (inl q) = or_left _ _ (eq-eqb _ _ q)
      pick (inr q) = or_second (eqb (kind (tag_of z d c k)) write_kind) _ (below_all k (page_spoiled z d c) q)
  goes_test k (goes_on_lem j e p o u n f l) = or_second (begins_log z d c k) (continues_log z d c k) (subst (λ (i : ℕ). continues_log z d c i ≡ true) (sym e)
      (and-true p (every_more _ _ (eq-eqb _ _ (rw e at o)) (every_more _ _ (eq-eqb _ _ (rw e at n)) (every_more _ _ (eq-eqb _ _ (rw e at f)) (every_more _ _ (eq-eqb _ _ (rw e at l)) (every_more _ _ (lt-ltb _ _ (rw e at u)) every-none)))))))

  pub ruled_of : (k : ℕ) → page_fits z d c k ≡ true → programmed (tag_of z d c k) ≡ true → Ruled k
  unfolding page_fits shares
  ruled_of k h p =
      let r = or_right (not (programmed (tag_of z d c k))) _ h (rw p) in
      let s = every_at _ r 1 in
      record {
        fields = fields_of z (tag_of z d c k) (every_at _ r 0);
        kind-same = eqb-true _ _ (every_at _ s 0);
        epoch-same = eqb-true _ _ (every_at _ s 1);
        back-same = eqb-true _ _ (every_at _ s 2);
        goes = goes_of k (every_at _ r 2);
      }

  pub ruled_test : (k : ℕ) → Ruled k → page_fits z d c k ≡ true
  unfolding page_fits
  ruled_test k r = or_second (not (programmed (tag_of z d c k))) _
      (every_more _ _ (fields_test z (tag_of z d c k) r.fields)
      (every_more _ _ (shares_test (head_tag z d c) (tag_of z d c k) r.kind-same r.epoch-same r.back-same)
      (every_more _ _ (goes_test k r.goes) every-none)))

  -- a page that is not programmed has no rules but its place
  pub unruled_test : (k : ℕ) → programmed (tag_of z d c k) ≡ false → page_fits z d c k ≡ true
  unfolding page_fits
  unruled_test k h = or_left (not (programmed (tag_of z d c k))) _ (rw h)

-- a page that fits by its fields is programmed
pub fields_real : (z : Sizes) (tag : List ℕ) → Fields z tag → programmed tag ≡ true
fields_real z tag f = kind_real tag f.kind_low (omega (arith, f.kind_high))

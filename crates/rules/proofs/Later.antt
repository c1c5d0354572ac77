-- A page behind one that fits: the bytes that the two share say the fields that fit there.
use mathlib.Core.Path.{◌≡◌, refl, sym, ap, ◌∙◌}
use mathlib.Core.Bool.{true, ◌&&◌}
use mathlib.Core.Logic.{◌⊎◌, inl, inr, ⊎_elim}
use mathlib.Core.List.{List, [], ◌∷◌}
use Prim.Native.Nat.{ℕ, zero, suc, ◌+◌, ◌≤◌, ◌<◌}
use native.Mathlib.Omega.{arith}
use lib.ListN.{length, get_or}
use lib.Seq.{ext_get_or}
use lib.Dec.{eqb}
use borrow.Author.Tests.{eqb-true, ltb-true, eq-eqb, ne_eqb, lt-ltb}
use Rattle.lists.specs.Lists.{all_below, part, same}
use Rattle.lists.proofs.Tests.{true_or_false, and_left, and_right, and-true, if_true, if_false, every_at, every_more, every-none}
use Rattle.lists.proofs.Rows.{all-below}
use Rattle.lists.proofs.Parts.{get_d_part, length-part-fits}
use Rattle.lists.proofs.Sames.{same_equal, same_self}
use Rattle.model.specs.declared.Sizes.{Sizes}
use Rattle.model.specs.Sizes.{Device, bucket_size, pages_for}
use Rattle.model.specs.Spare.{two, four, write_kind, kind, ordinal, pages, epoch, back, offset, extent, zeros}
use Rattle.model.specs.Stores.{tag_of}
use Rattle.model.specs.Image.{fields_fit}
use Rattle.model.proofs.Tags.{programmed_real}
use Rattle.model.proofs.Heads.{head_first}
use Rattle.model.proofs.Rules.{fields_of, fields_real, Goes, begins, goes_on_lem, Ruled}
use Rattle.rules.specs.Pages.{log_fits, same_bucket, goes_on, log_goes, fits_at}
use Rattle.rules.proofs.Page.{pages_told, bytes_told}

-- parts that have the same bytes
parts_same : (l m : List ℕ) (i n : ℕ) → i + n ≤ length l → i + n ≤ length m → ((k : ℕ) → k < n → get_or l (i + k) 0 ≡ get_or m (i + k) 0)
    → same (part l i n) (part m i n) ≡ true
parts_same l m i n hl hm h =
    let e : part l i n ≡ part m i n = ext_get_or 0 (part l i n) (part m i n) (length-part-fits l i n hl ∙ sym (length-part-fits m i n hm)) (λ k q.
    let g : k < n = omega (arith, length-part-fits l i n hl) in get_d_part l i n k g ∙ (h k g ∙ sym (get_d_part m i n k g))) in
    rw e (same_self (part m i n))

same_parts : (l m : List ℕ) (i n : ℕ) → same (part l i n) (part m i n) ≡ true → (k : ℕ) → k < n → get_or m (i + k) 0 ≡ get_or l (i + k) 0
same_parts l m i n h k g = sym (sym (get_d_part l i n k g) ∙ (ap (λ (x : List ℕ). get_or x k 0) (same_equal _ _ h) ∙ get_d_part m i n k g))

zero_byte : (tag : List ℕ) → zeros tag ≡ true → (k : ℕ) → get_or (get_or tag 3 0 ∷ get_or tag 10 0 ∷ get_or tag 11 0 ∷ []) k 0 ≡ 0
unfolding zeros
zero_byte tag h zero = eqb-true _ _ (every_at _ h 0)
zero_byte tag h (suc zero) = eqb-true _ _ (every_at _ h 1)
zero_byte tag h (suc (suc zero)) = eqb-true _ _ (every_at _ h 2)
zero_byte tag h (suc (suc (suc k))) = refl

-- ---- what the test says

module _ (z : Sizes) (d : Device) (c k : ℕ) (r : Ruled z d c k) where
  abbrev before : List ℕ
  before = tag_of z d c k

  abbrev tag : List ℕ
  tag = tag_of z d c (suc k)

  module _ (bucket : same_bucket before tag ≡ true) where
    place : (i : ℕ) → i < 8 → get_or tag (4 + i) 0 ≡ get_or before (4 + i) 0
    unfolding same_bucket
    place = same_parts before tag 4 8 (every_at _ bucket 0)

    same_kind : kind tag ≡ kind before
    unfolding same_bucket
    same_kind = eqb-true _ _ (every_at _ bucket 1)

    same-epoch : epoch tag ≡ epoch before
    unfolding epoch four two
    same-epoch = rw (place 0 (omega arith), place 1 (omega arith), place 2 (omega arith), place 3 (omega arith))

    same_back : back tag ≡ back before
    unfolding back two
    same_back = rw (place 4 (omega arith), place 5 (omega arith))

    same-zeros : zeros tag ≡ zeros before
    unfolding same_bucket zeros
    same-zeros = let e : get_or tag 3 0 ≡ get_or before 3 0 = eqb-true _ _ (every_at _ bucket 2) ∙ sym (zero_byte before r.fields.zeros_are 0) in rw (e, place 6 (omega arith), place 7 (omega arith))

    tested : (pages tag ≡ pages_for z (extent tag)) → (offset tag + extent tag ≤ bucket_size z)
        → (kind tag ≡ write_kind) ⊎ ((offset tag ≡ 0) × (extent tag ≡ bucket_size z)) → Goes z d c (suc k) → Ruled z d c (suc k)
    tested n i w g = record {
      fields = record {
        kind_low = omega (arith, same_kind, r.fields.kind_low);
        kind_high = omega (arith, same_kind, r.fields.kind_high);
        epoch_low = omega (arith, same-epoch, r.fields.epoch_low);
        back_below = omega (arith, same_back, r.fields.back_below);
        zeros_are = same-zeros ∙ r.fields.zeros_are;
        pages_are = n;
        bytes_inside = i;
        whole = w;
      };
      kind-same = same_kind ∙ r.kind-same;
      epoch-same = same-epoch ∙ r.epoch-same;
      back-same = same_back ∙ r.back-same;
      goes = g;
    }

    starts : ordinal tag ≡ 0 → (log_fits z tag && eqb (kind tag) write_kind) ≡ true → Ruled z d c (suc k)
    starts o h =
        let log = and_left _ _ h in
        let w : kind tag ≡ write_kind = eqb-true _ _ (and_right (log_fits z tag) _ h) in
        tested (pages_told z tag log) (bytes_told z tag log) (inl w) (begins o (inl w))

    continues : goes_on before tag ≡ true → Ruled z d c (suc k)
    unfolding goes_on offset extent two
    continues h =
        let last = same_parts before tag 12 4 (every_at _ h 3) in
        let n : pages tag ≡ pages before = eqb-true _ _ (every_at _ h 1) in
        let i : offset tag ≡ offset before = rw (last 0 (omega arith), last 1 (omega arith)) in
        let l : extent tag ≡ extent before = rw (last 2 (omega arith), last 3 (omega arith)) in
        tested (n ∙ (r.fields.pages_are ∙ ap (pages_for z) (sym l))) (omega (arith, i, l, r.fields.bytes_inside)) (rw (same_kind, i, l) r.fields.whole)
        (goes_on_lem k refl (fields_real z before r.fields) (eqb-true _ _ (every_at _ h 0)) (ltb-true _ _ (every_at _ h 2)) n i l)

    later_ruled : log_goes z before tag ≡ true → Ruled z d c (suc k)
    unfolding log_goes
    later_ruled goes = ⊎_elim
        (λ e. starts (eqb-true _ _ e) (sym (if_true _ _ e) ∙ goes))
        (λ e. continues (sym (if_false _ _ e) ∙ goes))
        (true_or_false (eqb (ordinal tag) 0))

module _ (z : Sizes) (d : Device) (c : ℕ) where
  first_ruled : fits_at z d c 0 ≡ true → Ruled z d c 0
  unfolding fits_at
  first_ruled h =
      let f = fields_of z (tag_of z d c 0) (and_left _ _ h) in
      let at = head_first z d c (programmed_real (tag_of z d c 0) (fields_real z (tag_of z d c 0) f)).1 in
      record {
        fields = f;
        kind-same = sym (ap kind at);
        epoch-same = sym (ap epoch at);
        back-same = sym (ap back at);
        goes = begins (eqb-true _ _ (and_right (fields_fit z (tag_of z d c 0)) _ h)) (inr (λ j q. absurd (omega arith)));
      }

  -- pages that pass from the first on fit by the book
  pub fitting_ruled : (n : ℕ) → all_below n (fits_at z d c) ≡ true → (k : ℕ) → k < n → Ruled z d c k
  unfolding fits_at
  fitting_ruled n h zero q = first_ruled (all-below n (fits_at z d c) h 0 q)
  fitting_ruled n h (suc k) q =
      let t = all-below n (fits_at z d c) h (suc k) q in
      later_ruled z d c k (fitting_ruled n h k (omega arith)) (and_left _ _ t) (and_right (same_bucket (tag_of z d c k) (tag_of z d c (suc k))) _ t)

-- ---- a page with the bytes of the page before it, but for the ordinal

module _ (z : Sizes) (before tag : List ℕ) (before_length : length before ≡ 16) (length-tag : length tag ≡ 16) where
  pub runs_on : zeros before ≡ true → ordinal tag ≡ ordinal before + 1 → ordinal tag < pages tag
      → ((k : ℕ) → k < 16 → (k ≡ 1 → ⊥) → get_or before k 0 ≡ get_or tag k 0) → (same_bucket before tag && log_goes z before tag) ≡ true
  unfolding same_bucket log_goes goes_on kind pages
  runs_on none next more bytes = and-true
      (every_more _ _ (parts_same before tag 4 8 (omega arith) (omega arith) (λ k h. bytes (4 + k) (omega arith) (λ e. omega arith)))
      (every_more _ _ (eq-eqb _ _ (sym (bytes 0 (omega arith) (λ e. omega arith))))
      (every_more _ _ (eq-eqb _ _ (sym (bytes 3 (omega arith) (λ e. omega arith)) ∙ zero_byte before none 0)) every-none)))
      (if_false _ _ (ne_eqb (ordinal tag) 0 (λ e. omega (arith, next)))
      ∙ every_more _ _ (eq-eqb _ _ next)
      (every_more _ _ (eq-eqb _ _ (sym (bytes 2 (omega arith) (λ e. omega arith))))
      (every_more _ _ (lt-ltb _ _ more)
      (every_more _ _ (parts_same before tag 12 4 (omega arith) (omega arith) (λ k h. bytes (12 + k) (omega arith) (λ e. omega arith))) every-none))))

-- What a page's log covers, and the runs that a search from the last page on finds.
use Prim.Native.Nat.{ℕ, zero, suc, ◌+◌, ◌-◌, ◌*◌, ◌≤◌, ◌<◌, max}
use mathlib.Core.Path.{◌≡◌, refl, sym, ap, ◌∙◌}
use mathlib.Core.Bool.{Bool, true, false, ◌&&◌, ◌||◌, true≢false}
use mathlib.Core.Logic.{◌⊎◌, inl, inr}
use mathlib.Core.List.{List, [], ◌∷◌, ◌++◌}
use native.Mathlib.Nat.{le_refl}
use native.Mathlib.Omega.{arith}
use native.Mathlib.Decide.{dec_lt}
use lib.ListN.{length, take, get_or, replicate, length-replicate}
use lib.Seq.{take_all}
use lib.Dec.{leb, ltb, eqb}
use borrow.Author.Tests.{eq-eqb, eqb-true, leb-true, le-leb, ltb-true, ltb-false, lt-ltb, le-ltb}
use Rattle.std.specs.Prelude.{Some, None, if◌then◌else◌}
use Rattle.lists.specs.Lists.{all, any, member, splice}
use Rattle.lists.proofs.Tests.{true_or_false, and_left, and_right, and-true, or_second}
use Rattle.lists.proofs.Parts.{get_d_part, length-part-fits, get_d_splice_in, get_d_splice_before, get_d_splice_after}
use Rattle.lists.proofs.Arrays.{done_more, all_at}
use Rattle.model.specs.declared.Sizes.{Sizes}
use Rattle.model.specs.Sizes.{Device, bucket_size, flash_size, body}
use Rattle.model.specs.Spare.{programmed}
use Rattle.model.specs.Stores.{tag_of}
use Rattle.model.specs.Image.{ends_log, merge_to, merge, blanks}
use Rattle.model.specs.State.{is_below}
use Rattle.model.specs.Recover.{merge_all}
use Rattle.model.proofs.Limits.{on_chip}
use Rattle.model.proofs.Tags.{programmed_real}
use Rattle.spare.specs.Fields.{fields, seen}
use Rattle.spare.specs.declared.Fields.{Fields}
use Rattle.spare.specs.declared.Seen.TheVariants.{Programmed}
use Rattle.image.specs.Chip.{spare_only}
use Rattle.overlay.specs.declared.Extent.{Extent}
use Rattle.overlay.specs.declared.Run.{Run}
use Rattle.overlay.specs.Window.{chip, Tagged, Readable, LogPlace, log_part}
use Rattle.overlay.specs.Runs.{Lays, LaysNone, EndsBy, Runs, covered}
use Rattle.overlay.proofs.Logs.{in_flash, merged-length, log_place, log_laid, ends_last, log_lacking, merged-used}

-- ---- one page

module _ {z : Sizes} {spare : List ℕ} (tagged : Tagged z spare) {c : ℕ} (bucket : c < body z) {k : ℕ} (page : k < z.p) where
  -- what is said of the spare area needs no flash of its own
  blank_flash : Readable z (replicate (flash_size z) 0) spare
  blank_flash = record { limits = tagged.limits; flash_length = length-replicate (flash_size z) 0; spare_length = tagged.spare_length; body_formed = tagged.body_formed }

  pub lays_nothing : ends_log z (spare_only spare) c k ≡ false → LaysNone z spare c k
  lays_nothing e = record { beside = λ flash base r s i. ap (λ (m : List ℕ). get_or m i 0) (log_lacking r bucket k e base) }

  module _ (e : ends_log z (spare_only spare) c k ≡ true) where
    abbrev pub said : Fields
    said = fields (tag_of z (spare_only spare) c k)

    says : seen (tag_of z (spare_only spare) c k) ≡ Programmed said
    unfolding seen ends_log
    says = let real = programmed_real (tag_of z (spare_only spare) c k) (and_left (programmed (tag_of z (spare_only spare) c k)) _ e) in rw (real.0, real.1)

    last : said.ordinal + 1 ≡ said.pages
    last = ends_last blank_flash bucket page says e

    pub place : LogPlace z k said
    place = log_place blank_flash bucket page says last

    abbrev at : ℕ
    at = c * bucket_size z + (k + 1 - said.pages) * z.s

    module _ (flash base : List ℕ) (r : Readable z flash spare) (size : length base ≡ bucket_size z) where
      before : length (merge_to z (chip flash spare) c base k) ≡ bucket_size z
      before = merged-length r bucket base size k (omega arith)

      log_length : length (log_part z c k said flash) ≡ said.last + 1
      unfolding log_part
      log_length = length-part-fits flash at (said.last + 1) (omega (arith, in_flash z flash c _ r.flash_length (on_chip z c bucket) place.stored))

      fits : said.offset + length (log_part z c k said flash) ≤ length (merge_to z (chip flash spare) c base k)
      fits = rw (log_length, before) place.place

      over : (i : ℕ) → said.offset ≤ i → i < said.offset + (said.last + 1) → get_or (merge_to z (chip flash spare) c base (k + 1)) i 0 ≡ get_or flash (at + (i - said.offset)) 0
      unfolding log_part
      over i l h =
          let j = i - said.offset in
          let q : i ≡ said.offset + j = omega arith in
          let less : j < said.last + 1 = omega arith in
          ap (λ (m : List ℕ). get_or m i 0) (log_laid r bucket page says last base)
          ∙ ap (λ (y : ℕ). get_or (splice (merge_to z (chip flash spare) c base k) said.offset (log_part z c k said flash)) y 0) q
          ∙ get_d_splice_in (merge_to z (chip flash spare) c base k) said.offset (log_part z c k said flash) fits j (rw log_length less)
          ∙ get_d_part flash at (said.last + 1) j less

      beside : (i : ℕ) → (i < said.offset) ⊎ (said.offset + (said.last + 1) ≤ i) → get_or (merge_to z (chip flash spare) c base (k + 1)) i 0 ≡ get_or (merge_to z (chip flash spare) c base k) i 0
      beside i (inl o) =
          ap (λ (m : List ℕ). get_or m i 0) (log_laid r bucket page says last base)
          ∙ get_d_splice_before (merge_to z (chip flash spare) c base k) said.offset (log_part z c k said flash) fits i o
      beside i (inr o) =
          ap (λ (m : List ℕ). get_or m i 0) (log_laid r bucket page says last base)
          ∙ get_d_splice_after (merge_to z (chip flash spare) c base k) said.offset (log_part z c k said flash) fits i (rw log_length o)

    pub lays_log : Lays z spare c k (record { low = said.offset; high = said.offset + (said.last + 1); at = c * bucket_size z + (k + 1 - said.pages) * z.s })
    lays_log = record { inside = λ h. record { bucket = on_chip z c bucket; low = omega arith; high = omega (arith, place.stored) }; over = over; beside = beside }

-- ---- one bucket

module _ (e : Extent) (x : ℕ) (h : (ltb e.low x && leb x e.high) ≡ true) where
  pub covered_low : e.low < x
  covered_low = ltb-true e.low x (and_left (ltb e.low x) (leb x e.high) h)

  pub covered_high : x ≤ e.high
  covered_high = leb-true x e.high (and_right (ltb e.low x) (leb x e.high) h)

-- the bytes from a start up to x are those of the pages before page k
abbrev pub Above : (z : Sizes) (spare : List ℕ) (c start x k : ℕ) → Type 0
Above z spare c start x k = (flash base : List ℕ) → Readable z flash spare → length base ≡ bucket_size z → (i : ℕ) → start ≤ i → i < x
    → get_or (merge_to z (chip flash spare) c base z.p) i 0 ≡ get_or (merge_to z (chip flash spare) c base k) i 0

-- a run up to x whose start a log's end raises
abbrev pub raised_to : (x start : ℕ) → Extent → ℕ
raised_to x start e = if ltb e.high x then max start e.high else start

module _ {z : Sizes} {spare : List ℕ} {c from start x k : ℕ} {e : Extent} (some : start < x) (least : from ≤ start) (above : Above z spare c start x (k + 1)) (lays : Lays z spare c k e) where
  -- the log covers the byte before x
  pub run_found : (ltb e.low x && leb x e.high) ≡ true
      → Runs z spare (c ∷ []) from x (record { at = Some (e.at + (max start e.low - e.low)); start = max start e.low })
  unfolding merge_all merge member any
  run_found h =
      let low = covered_low e x h in
      let high = covered_high e x h in
      let inside = lays.inside (omega arith) in
      record {
        some = omega arith;
        least = omega arith;
        inside = λ t. (c, rw (eq-eqb c c refl), record { bucket = inside.bucket; low = omega (arith, inside.low); high = omega (arith, inside.high) });
        over = λ t flash base r s i l m.
            let place : e.at + (i - e.low) ≡ e.at + (max start e.low - e.low) + (i - max start e.low) = omega arith in
            above flash base r s i (omega arith) m ∙ lays.over flash base r s i (omega arith) (omega arith) ∙ ap (λ (y : ℕ). get_or flash y 0) place;
        beside = λ t. absurd (true≢false t);
      }

  module _ (h : (ltb e.low x && leb x e.high) ≡ false) where
    low_or_high : (e.high < x) ⊎ ((x ≤ e.low) × (x ≤ e.high))
    low_or_high = go (true_or_false (ltb e.high x)) (true_or_false (ltb e.low x))
      where
        go : (ltb e.high x ≡ true) ⊎ (ltb e.high x ≡ false) → (ltb e.low x ≡ true) ⊎ (ltb e.low x ≡ false) → (e.high < x) ⊎ ((x ≤ e.low) × (x ≤ e.high))
        go (inl u) l = inl (ltb-true e.high x u)
        go (inr u) (inr l) = inr (ltb-false e.low x l, ltb-false e.high x u)
        go (inr u) (inl l) = absurd (true≢false (sym (le-leb x e.high (ltb-false e.high x u)) ∙ rw l at h))

    -- it does not, and ends before or begins behind
    pub raised_some : raised_to x start e < x
    raised_some = go low_or_high
      where
        go : (e.high < x) ⊎ ((x ≤ e.low) × (x ≤ e.high)) → raised_to x start e < x
        go (inl l) = rw (lt-ltb e.high x l) (omega arith)
        go (inr l) = rw (le-ltb e.high x l.1) some

    pub raised_least : from ≤ raised_to x start e
    raised_least = go low_or_high
      where
        go : (e.high < x) ⊎ ((x ≤ e.low) × (x ≤ e.high)) → from ≤ raised_to x start e
        go (inl l) = rw (lt-ltb e.high x l) (omega arith)
        go (inr l) = rw (le-ltb e.high x l.1) least

    pub raised_above : Above z spare c (raised_to x start e) x k
    raised_above flash base r s i l m = go low_or_high l
      where
        go : (e.high < x) ⊎ ((x ≤ e.low) × (x ≤ e.high)) → raised_to x start e ≤ i
            → get_or (merge_to z (chip flash spare) c base z.p) i 0 ≡ get_or (merge_to z (chip flash spare) c base k) i 0
        go (inl o) n =
            let n' : max start e.high ≤ i = rw (lt-ltb e.high x o) at n in
            above flash base r s i (omega arith) m ∙ lays.beside flash base r s i (inr (omega arith))
        go (inr o) n =
            let n' : start ≤ i = rw (le-ltb e.high x o.1) at n in
            above flash base r s i n' m ∙ lays.beside flash base r s i (inl (omega (arith, o.0)))

-- no page behind those looked at lays a byte before x
pub above_end : {z : Sizes} {spare : List ℕ} {c n x : ℕ} (start : ℕ) → EndsBy z spare c x n → Above z spare c start x n
above_end start ends flash base r s i l m = ends.rest flash base r s i m

-- no log ends in the blank pages
pub ends_used : {z : Sizes} {spare : List ℕ} {c n : ℕ} (x : ℕ) → c < body z → n ≡ z.p - blanks z (spare_only spare) c → EndsBy z spare c x n
ends_used {z} {spare} {c} {n} x bucket e = record {
  most = omega (arith, e);
  rest = λ flash base r s i m. ap (λ (w : List ℕ). get_or w i 0) (sym (ap (merge_to z (chip flash spare) c base) e ∙ merged-used r bucket base));
}

-- what holds before x holds before less
pub ends_less : {z : Sizes} {spare : List ℕ} {c n x : ℕ} (y : ℕ) → y ≤ x → EndsBy z spare c x n → EndsBy z spare c y n
ends_less y h ends = record { most = ends.most; rest = λ flash base r s i m. ends.rest flash base r s i (omega arith) }

-- nor does a page that reaches no byte before x
pub ends_dead : {z : Sizes} {spare : List ℕ} {c k x : ℕ} {e : Extent} → Lays z spare c k e → (ltb e.low x && ltb e.low e.high) ≡ false → EndsBy z spare c x (k + 1) → EndsBy z spare c x k
ends_dead {z} {spare} {c} {k} {x} {e} lays dead ends = record {
  most = omega (arith, ends.most);
  rest = λ flash base r s i m. ends.rest flash base r s i m ∙ lays.beside flash base r s i (go i m (true_or_false (ltb e.low x)));
}
  where
    go : (i : ℕ) → i < x → (ltb e.low x ≡ true) ⊎ (ltb e.low x ≡ false) → (i < e.low) ⊎ (e.high ≤ i)
    go i m (inr l) = inl (omega (arith, ltb-false e.low x l))
    go i m (inl l) = outside (dec_lt i e.low) (ltb-false e.low e.high (rw l at dead))
      where
        outside : Dec (i < e.low) → e.high ≤ e.low → (i < e.low) ⊎ (e.high ≤ i)
        outside (yes u) v = inl u
        outside (no u) v = inr (omega arith)

-- no page is left
pub run_none : {z : Sizes} {spare : List ℕ} {c from start x : ℕ} → start < x → from ≤ start → Above z spare c start x 0 → Runs z spare (c ∷ []) from x (record { at = None; start = start })
unfolding merge_all merge merge_to
run_none some least above = record { some = some; least = least; inside = λ t. absurd (true≢false (sym t)); over = λ t. absurd (true≢false (sym t)); beside = λ t. above }

-- ---- several buckets

pub merge_append : (z : Sizes) (d : Device) (l m base : List ℕ) → merge_all z d (l ++ m) base ≡ merge_all z d m (merge_all z d l base)
unfolding merge_all
merge_append z d [] m base = refl
merge_append z d (c ∷ l) m base = merge_append z d l m (merge z d c base)

module _ {z : Sizes} {flash spare : List ℕ} (readable : Readable z flash spare) where
  pub merge-all-length : (l : List ℕ) → all (is_below (body z)) l ≡ true → (base : List ℕ) → length base ≡ bucket_size z → length (merge_all z (chip flash spare) l base) ≡ bucket_size z
  unfolding merge_all all is_below merge
  merge-all-length [] h base size = size
  merge-all-length (c ∷ l) h base size =
      merge-all-length l (and_right (is_below (body z) c) (all (is_below (body z)) l) h) (merge z (chip flash spare) c base)
      (merged-length readable (ltb-true c (body z) (and_left (is_below (body z) c) (all (is_below (body z)) l) h)) base size z.p (le_refl z.p))

-- a listed bucket is one that may stand in queues
pub listed : (n : ℕ) (l : List ℕ) → all (is_below n) l ≡ true → (i : ℕ) → i < length l → get_or l i 0 < n
unfolding is_below
listed n l h i k = ltb-true (get_or l i 0) n (all_at (is_below n) l h i 0 k)

all_front : {A : Type 0} (t : A → Bool) (l : List A) → all t l ≡ true → (n : ℕ) → all t (take n l) ≡ true
unfolding all
all_front t l h zero = refl
all_front t [] h (suc n) = refl
all_front t (x ∷ l) h (suc n) = and-true (and_left (t x) (all t l) h) (all_front t l (and_right (t x) (all t l) h) n)

member_at : (l : List ℕ) (i : ℕ) → i < length l → member (get_or l i 0) l ≡ true
unfolding member any
member_at [] i h = absurd (omega arith)
member_at (x ∷ l) zero h = rw (eq-eqb x x refl)
member_at (x ∷ l) (suc i) h = or_second (eqb (get_or l i 0) x) (any (eqb (get_or l i 0)) l) (member_at l i (omega arith))

-- the bytes from a start up to x are those of the first j buckets
abbrev pub Among : (z : Sizes) (spare list : List ℕ) (start x j : ℕ) → Type 0
Among z spare list start x j = (flash base : List ℕ) → Readable z flash spare → length base ≡ bucket_size z → (i : ℕ) → start ≤ i → i < x
    → get_or (merge_all z (chip flash spare) list base) i 0 ≡ get_or (merge_all z (chip flash spare) (take j list) base) i 0

pub among_all : (z : Sizes) (spare list : List ℕ) (start x : ℕ) → Among z spare list start x (length list)
among_all z spare list start x flash base r s i l m = ap (λ (w : List ℕ). get_or (merge_all z (chip flash spare) w base) i 0) (sym (take_all (length list) list (le_refl (length list))))

module _ {z : Sizes} {spare : List ℕ} (list : List ℕ) (below : all (is_below (body z)) list ≡ true) {from start x j : ℕ} (least : from ≤ start) (here : j < length list)
    (among : Among z spare list start x (j + 1)) {r : Run} (runs : Runs z spare (get_or list j 0 ∷ []) start x r) where
  -- the next bucket's logs over those of the buckets before it
  next : (flash base : List ℕ) → merge_all z (chip flash spare) (take (j + 1) list) base ≡ merge_all z (chip flash spare) (get_or list j 0 ∷ []) (merge_all z (chip flash spare) (take j list) base)
  next flash base = ap (λ (w : List ℕ). merge_all z (chip flash spare) w base) (done_more j list 0 here) ∙ merge_append z (chip flash spare) (take j list) (get_or list j 0 ∷ []) base

  front_size : (flash base : List ℕ) → Readable z flash spare → length base ≡ bucket_size z → length (merge_all z (chip flash spare) (take j list) base) ≡ bucket_size z
  front_size flash base readable size = merge-all-length readable (take j list) (all_front (is_below (body z)) list below j) base size

  only : (c : ℕ) → member c (get_or list j 0 ∷ []) ≡ true → member c list ≡ true
  unfolding member any
  only c h = rw (← eqb-true c (get_or list j 0) (or_none (eqb c (get_or list j 0)) h)) at (member_at list j here)
    where
      or_none : (t : Bool) → (t || false) ≡ true → t ≡ true
      or_none true h = refl
      or_none false h = h

  pub list_found : (covered r) ≡ true → Runs z spare list from x r
  list_found t = record {
    some = runs.some;
    least = omega (arith, runs.least);
    inside = λ u. let w = runs.inside u in (w.0, only w.0 w.1, w.2);
    over = λ u flash base readable size i l m.
        among flash base readable size i (omega (arith, runs.least)) m ∙ ap (λ (w : List ℕ). get_or w i 0) (next flash base)
        ∙ runs.over u flash (merge_all z (chip flash spare) (take j list) base) readable (front_size flash base readable size) i l m;
    beside = λ u. absurd (true≢false (sym t ∙ u));
  }

  pub list_passed : (covered r) ≡ false → Among z spare list r.start x j
  list_passed t flash base readable size i l m =
      among flash base readable size i (omega (arith, runs.least)) m ∙ ap (λ (w : List ℕ). get_or w i 0) (next flash base)
      ∙ runs.beside t flash (merge_all z (chip flash spare) (take j list) base) readable (front_size flash base readable size) i l m

-- no bucket is left
pub list_none : {z : Sizes} {spare list : List ℕ} {from start x : ℕ} → start < x → from ≤ start → Among z spare list start x 0 → Runs z spare list from x (record { at = None; start = start })
unfolding merge_all
list_none some least among = record { some = some; least = least; inside = λ t. absurd (true≢false (sym t)); over = λ t. absurd (true≢false (sym t)); beside = λ t. among }

-- the pages to be looked at of each listed bucket
pub ends_at : {z : Sizes} {spare : List ℕ} {newest x : ℕ} (list : List ℕ) → all (is_below (body z)) list ≡ true
    → (0 < length list → EndsBy z spare (get_or list (length list - 1) 0) x newest) → (j : ℕ) → j < length list
    → EndsBy z spare (get_or list j 0) x (if eqb j (length list - 1) then newest else z.p - blanks z (spare_only spare) (get_or list j 0))
ends_at {z} {spare} {newest} {x} list below last j h = go (true_or_false (eqb j (length list - 1)))
  where
    go : (eqb j (length list - 1) ≡ true) ⊎ (eqb j (length list - 1) ≡ false)
        → EndsBy z spare (get_or list j 0) x (if eqb j (length list - 1) then newest else z.p - blanks z (spare_only spare) (get_or list j 0))
    go (inl e) = rw e (rw (← eqb-true j (length list - 1) e) at (last (omega arith)))
    go (inr e) = rw e (ends_used x (listed (body z) list below j h) refl)

-- Runs put behind each other make up the whole.
use Prim.Native.Nat.{ℕ, ◌+◌, ◌-◌, ◌*◌, ◌≤◌, ◌<◌}
use mathlib.Core.Path.{◌≡◌, sym, ap, ◌∙◌}
use mathlib.Core.Bool.{true, false, true≢false}
use mathlib.Core.Logic.{◌⊎◌, inl, inr, ◌≢◌}
use mathlib.Core.List.{List, append-nil}
use native.Mathlib.Nat.{mul-le-mul}
use native.Mathlib.Omega.{arith}
use lib.ListN.{length, get_or, drop_of_length-le}
use borrow.Author.Tests.{eqb-true, eq-eqb, ne_eqb}
use Rattle.std.specs.Prelude.{if◌then◌else◌}
use Rattle.lists.specs.Lists.{all, empty, member, splice, part}
use Rattle.lists.proofs.Tests.{true_or_false, if_true, if_false}
use Rattle.lists.proofs.Arrays.{empty-length}
use Rattle.lists.proofs.Parts.{Apart, part_from, part_other, length-splice, length-part-fits}
use Rattle.lists.proofs.Splices.{splice_own, splice_before, splice_start}
use Rattle.lists.proofs.Windows.{part-part}
use Rattle.model.specs.declared.Sizes.{Sizes}
use Rattle.model.specs.Sizes.{bucket_size, flash_size, body}
use Rattle.model.specs.State.{is_below}
use Rattle.model.specs.Recover.{merge_all}
use Rattle.model.proofs.Frames.{row_fits_lem, row_apart}
use Rattle.overlay.specs.declared.Run.{Run}
use Rattle.overlay.specs.Window.{chip, Tagged, Readable}
use Rattle.overlay.specs.Runs.{Inside, Runs, covered, place_of, lent_over, Moves, moved_over, Shows, beneath, Aside}
use Rattle.overlay.proofs.Found.{merge-all-length}

pub tagged_of : {z : Sizes} {flash spare : List ℕ} → Readable z flash spare → Tagged z spare
tagged_of r = record { limits = r.limits; spare_length = r.spare_length; body_formed = r.body_formed }

-- where a log's bytes lie there is flash
pub stored : {z : Sizes} {flash spare list : List ℕ} {from x : ℕ} {r : Run} → Readable z flash spare → Runs z spare list from x r → (covered r) ≡ true → (place_of r) + (x - r.start) ≤ length flash
unfolding flash_size
stored {z} readable runs t =
    let w = runs.inside t in
    omega (arith, w.2.high, row_fits_lem w.0 z.c (bucket_size z) w.2.bucket, readable.flash_length)

module _ {z : Sizes} {flash spare : List ℕ} (readable : Readable z flash spare) (list : List ℕ) (below : all (is_below (body z)) list ≡ true) (whole : List ℕ) (size : length whole ≡ bucket_size z) where
  abbrev result : List ℕ
  result = merge_all z (chip flash spare) list whole

  pub result_size : length result ≡ bucket_size z
  result_size = merge-all-length readable list below whole size

  module _ {from x : ℕ} (inside : x ≤ bucket_size z) {r : Run} (runs : Runs z spare list from x r) where
    -- the run's bytes of the result
    pub over_part : (covered r) ≡ true → part result r.start (x - r.start) ≡ part flash (place_of r) (x - r.start)
    over_part t =
        part_from result flash r.start (place_of r) (x - r.start) (omega (arith, runs.some, result_size)) (stored readable runs t)
        (λ k h. let same : r.start + k - r.start ≡ k = omega arith in
        runs.over t flash whole readable size (r.start + k) (omega arith) (omega (arith, runs.some)) ∙ ap (λ (j : ℕ). get_or flash ((place_of r) + j) 0) same)

    pub beside-part : (covered r) ≡ false → part result r.start (x - r.start) ≡ part whole r.start (x - r.start)
    beside-part t =
        part_from result whole r.start r.start (x - r.start) (omega (arith, runs.some, result_size)) (omega (arith, runs.some))
        (λ k h. runs.beside t flash whole readable size (r.start + k) (omega arith) (omega (arith, runs.some)))

  -- ---- into a window

  module _ {under window₀ : List ℕ} (from : ℕ) (fits : from + length window₀ ≤ bucket_size z) (shows : Shows whole under from window₀) where
    -- the window shows the result from x on, and then from the run's start on
    module _ {x : ℕ} (last : x ≤ from + length window₀) {r : Run} (runs : Runs z spare list from x r) {window : List ℕ}
        (shown : window ≡ splice window₀ (x - from) (part result x (from + length window₀ - x))) where
      place : from + (r.start - from) ≡ r.start
      place = omega (arith, runs.least)

      next : splice window (r.start - from) (part result r.start (x - r.start)) ≡ splice window₀ (r.start - from) (part result r.start (from + length window₀ - r.start))
      next =
          let before : (r.start - from) + (x - r.start) ≡ x - from = omega (arith, runs.some, runs.least) in
          let up : r.start + (x - r.start) ≡ x = omega (arith, runs.some) in
          let whole_part : (x - r.start) + (from + length window₀ - x) ≡ from + length window₀ - r.start = omega (arith, runs.some) in
          let joined = splice_before window₀ result (r.start - from) r.start (x - r.start) (from + length window₀ - x) (omega (arith, runs.some, runs.least)) (omega (arith, runs.some, result_size)) in
          rw shown (rw (before, up, whole_part) at joined)

      length-shown : length (part result x (from + length window₀ - x)) ≡ from + length window₀ - x
      length-shown = length-part-fits result x (from + length window₀ - x) (omega (arith, result_size))

      length_window : length window ≡ length window₀
      length_window = ap length shown ∙ length-splice window₀ (x - from) (part result x (from + length window₀ - x)) (omega (arith, runs.some, runs.least, length-shown))

      -- where nothing is lent, the window shows a run that no log covers
      own : (covered r) ≡ false → empty under ≡ true → Shows whole under from window₀ → part result r.start (x - r.start) ≡ part window (r.start - from) (x - r.start)
      own t u (inl q) = absurd (omega (arith, runs.some, eqb-true (length under) 0 (sym (empty-length under) ∙ u), ap length q))
      own t u (inr q) =
          beside-part (omega arith) runs t ∙ ap (λ (i : ℕ). part whole i (x - r.start)) (sym place)
          ∙ sym (part-part whole from (length window₀) (r.start - from) (x - r.start) (omega (arith, runs.some, runs.least)) (omega arith))
          ∙ ap (λ (w : List ℕ). part w (r.start - from) (x - r.start)) (sym q.1)
          ∙ sym (part_other window₀ (x - from) (part result x (from + length window₀ - x)) (r.start - from) (x - r.start) (omega (arith, runs.some, runs.least, length-shown)) (inl (omega (arith, runs.some, runs.least))))
          ∙ ap (λ (w : List ℕ). part w (r.start - from) (x - r.start)) (sym shown)

      pub lent_step : lent_over r x from flash under window ≡ splice window₀ (r.start - from) (part result r.start (from + length window₀ - r.start))
      unfolding lent_over
      lent_step = go (true_or_false (covered r)) (true_or_false (empty under)) shows
        where
          go : ((covered r) ≡ true) ⊎ ((covered r) ≡ false) → (empty under ≡ true) ⊎ (empty under ≡ false) → Shows whole under from window₀
              → lent_over r x from flash under window ≡ splice window₀ (r.start - from) (part result r.start (from + length window₀ - r.start))
          go (inl t) u s = rw (t, ← over_part (omega arith) runs t) next
          go (inr t) (inr u) (inl s) = rw (t, u, s, ← beside-part (omega arith) runs t) next
          go (inr t) (inr u) (inr s) = absurd (true≢false (sym s.0 ∙ u))
          go (inr t) (inl u) s =
              rw (t, u) (sym (splice_own window (r.start - from) (x - r.start) (omega (arith, runs.some, runs.least, length_window))) ∙ ap (splice window (r.start - from)) (sym (own t u s)) ∙ next)

    pub lent_all : splice window₀ 0 (part result from (length window₀)) ≡ part result from (length window₀)
    lent_all =
        let e : length (part result from (length window₀)) ≡ length window₀ = length-part-fits result from (length window₀) (omega (arith, result_size)) in
        splice_start window₀ (part result from (length window₀)) ∙ rw (e, drop_of_length-le window₀ {i = length window₀} (omega arith), append-nil)

-- ---- into the flash itself

module _ {z : Sizes} {flash₀ spare : List ℕ} (readable : Readable z flash₀ spare) (list : List ℕ) (below : all (is_below (body z)) list ≡ true) {base target n : ℕ} (under : List ℕ)
    (inside : target < z.c) (based : base < z.c) (fits : n ≤ bucket_size z) (aside : Aside z list base under target) where
  abbrev whole : List ℕ
  whole = beneath z flash₀ base under

  abbrev made : List ℕ
  made = merge_all z (chip flash₀ spare) list whole

  in_flash : (c : ℕ) → c < z.c → c * bucket_size z + bucket_size z ≤ length flash₀
  unfolding flash_size
  in_flash c h = omega (arith, row_fits_lem c z.c (bucket_size z) h, readable.flash_length)

  -- nothing is lent, or a whole bucket's bytes are
  lent_or_not : ((empty under ≡ true) × (length under ≡ 0) × (base ≢ target)) ⊎ ((empty under ≡ false) × (length under ≡ bucket_size z))
  unfolding bucket_size
  lent_or_not = go aside.lent
    where
      some : 1 ≤ z.p * z.s
      some = omega (arith, mul-le-mul readable.limits.p_low readable.limits.s_low)

      go : (length under ≡ bucket_size z) ⊎ ((length under ≡ 0) × (base ≢ target)) → ((empty under ≡ true) × (length under ≡ 0) × (base ≢ target)) ⊎ ((empty under ≡ false) × (length under ≡ bucket_size z))
      go (inl h) = inr (empty-length under ∙ ne_eqb (length under) 0 (λ e. omega (arith, some)), h)
      go (inr h) = inl (empty-length under ∙ eq-eqb (length under) 0 h.0, h.0, h.1)

  pub whole_size : length whole ≡ bucket_size z
  whole_size = go lent_or_not
    where
      go : ((empty under ≡ true) × (length under ≡ 0) × (base ≢ target)) ⊎ ((empty under ≡ false) × (length under ≡ bucket_size z)) → length whole ≡ bucket_size z
      go (inl h) = rw h.0 (length-part-fits flash₀ (base * bucket_size z) (bucket_size z) (in_flash base based))
      go (inr h) = rw h.0 h.1

  -- bytes of another bucket lie apart from those of the target
  apart : {c at m : ℕ} (x : ℕ) → c ≢ target → Inside z c at m → x + m ≤ bucket_size z → Apart (target * bucket_size z + x) m at m
  apart {c} {at} {m} x ne i h = go (row_apart target c (bucket_size z) (λ q. ne (sym q)))
    where
      go : Apart (target * bucket_size z) (bucket_size z) (c * bucket_size z) (bucket_size z) → Apart (target * bucket_size z + x) m at m
      go (inl a) = inl (omega (arith, i.high))
      go (inr a) = inr (omega (arith, i.low))

  module _ {x : ℕ} (most : x ≤ n) {r : Run} (runs : Runs z spare list 0 x r) where
    taken : (covered r) ≡ true → (c : ℕ) × (c ≢ target) × Inside z c (place_of r) (x - r.start)
    taken t = let w = runs.inside t in (w.0, λ q. true≢false (sym w.1 ∙ ap (λ (c : ℕ). member c list) q ∙ aside.unlisted), w.2)

    lower : base ≢ target → Inside z base (base * bucket_size z + r.start) (x - r.start)
    lower ne = record { bucket = based; low = omega arith; high = omega (arith, runs.some) }

    pub moves : (flash : List ℕ) → length flash ≡ length flash₀ → Moves r x (base * bucket_size z) (target * bucket_size z) (length under) (length flash)
    moves flash same = record {
      some = runs.some;
      last = omega (arith, in_flash target inside);
      stored = λ t. (omega (arith, stored readable runs t), (let w = taken t in apart r.start w.1 w.2 (omega (arith, runs.some))));
      lent = go lent_or_not;
    }
      where
        go : ((empty under ≡ true) × (length under ≡ 0) × (base ≢ target)) ⊎ ((empty under ≡ false) × (length under ≡ bucket_size z))
            → ((length under ≡ 0) × (base * bucket_size z + x ≤ length flash) × Apart (target * bucket_size z + r.start) (x - r.start) (base * bucket_size z + r.start) (x - r.start)) ⊎ (x ≤ length under)
        go (inl h) = inl (h.1, omega (arith, in_flash base based), apart r.start h.2 (lower h.2) (omega (arith, runs.some)))
        go (inr h) = inr (omega (arith, h.1))

    -- the target holds the result from x on, and then from the run's start on
    module _ {flash : List ℕ} (held : flash ≡ splice flash₀ (target * bucket_size z + x) (part made x (n - x))) where
      length_held : length (part made x (n - x)) ≡ n - x
      length_held = length-part-fits made x (n - x) (omega (arith, result_size readable list below whole whole_size))

      -- what lies in another bucket is as it was
      still : {c at : ℕ} → c ≢ target → Inside z c at (x - r.start) → part flash at (x - r.start) ≡ part flash₀ at (x - r.start)
      still {c} {at} ne i =
          ap (λ (l : List ℕ). part l at (x - r.start)) held
          ∙ part_other flash₀ (target * bucket_size z + x) (part made x (n - x)) at (x - r.start) (omega (arith, length_held, in_flash target inside)) (go (row_apart target c (bucket_size z) (λ q. ne (sym q))))
        where
          go : Apart (target * bucket_size z) (bucket_size z) (c * bucket_size z) (bucket_size z) → Apart (target * bucket_size z + x) (length (part made x (n - x))) at (x - r.start)
          go (inl a) = inl (omega (arith, i.high))
          go (inr a) = inr (omega (arith, i.low, length_held))

      next_held : splice flash (target * bucket_size z + r.start) (part made r.start (x - r.start)) ≡ splice flash₀ (target * bucket_size z + r.start) (part made r.start (n - r.start))
      next_held =
          let before : target * bucket_size z + r.start + (x - r.start) ≡ target * bucket_size z + x = omega (arith, runs.some) in
          let up : r.start + (x - r.start) ≡ x = omega (arith, runs.some) in
          let whole_part : (x - r.start) + (n - x) ≡ n - r.start = omega (arith, runs.some) in
          let joined = splice_before flash₀ made (target * bucket_size z + r.start) r.start (x - r.start) (n - x) (omega (arith, in_flash target inside, runs.some)) (omega (arith, runs.some, result_size readable list below whole whole_size)) in
          rw held (rw (before, up, whole_part) at joined)

      -- the bytes moved, by where they come from
      moved_bytes : (if (covered r) then part flash (place_of r) (x - r.start) else (if empty under then part flash (base * bucket_size z + r.start) (x - r.start) else part under r.start (x - r.start)))
          ≡ part made r.start (x - r.start)
      moved_bytes = go (true_or_false (covered r)) lent_or_not
        where
          over : List ℕ
          over = part flash (place_of r) (x - r.start)

          beneath_it : List ℕ
          beneath_it = if empty under then part flash (base * bucket_size z + r.start) (x - r.start) else part under r.start (x - r.start)

          go : ((covered r) ≡ true) ⊎ ((covered r) ≡ false) → ((empty under ≡ true) × (length under ≡ 0) × (base ≢ target)) ⊎ ((empty under ≡ false) × (length under ≡ bucket_size z))
              → (if (covered r) then over else beneath_it) ≡ part made r.start (x - r.start)
          go (inl t) u =
              let w = taken t in
              if_true over beneath_it t ∙ still w.1 w.2 ∙ sym (over_part readable list below whole whole_size (omega arith) runs t)
          go (inr t) (inl u) =
              let lies : part whole r.start (x - r.start) ≡ part flash₀ (base * bucket_size z + r.start) (x - r.start) =
              ap (λ (l : List ℕ). part l r.start (x - r.start)) (if_true (part flash₀ (base * bucket_size z) (bucket_size z)) under u.0)
              ∙ part-part flash₀ (base * bucket_size z) (bucket_size z) r.start (x - r.start) (omega (arith, runs.some)) (in_flash base based) in
              if_false over beneath_it t ∙ if_true _ _ u.0 ∙ still u.2 (lower u.2) ∙ sym lies ∙ sym (beside-part readable list below whole whole_size (omega arith) runs t)
          go (inr t) (inr u) =
              if_false over beneath_it t ∙ if_false _ _ u.0
              ∙ ap (λ (l : List ℕ). part l r.start (x - r.start)) (sym (if_false (part flash₀ (base * bucket_size z) (bucket_size z)) under u.0))
              ∙ sym (beside-part readable list below whole whole_size (omega arith) runs t)

      pub moved-step : moved_over r x (base * bucket_size z) (target * bucket_size z) under flash ≡ splice flash₀ (target * bucket_size z + r.start) (part made r.start (n - r.start))
      unfolding moved_over
      moved-step = ap (splice flash (target * bucket_size z + r.start)) moved_bytes ∙ next_held

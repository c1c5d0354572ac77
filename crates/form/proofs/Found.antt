-- Numbers, rows and tables found in bytes.
use Prim.Native.Nat.{ℕ, zero, suc, ◌+◌, ◌-◌, ◌*◌, ◌^◌, ◌<◌, ◌≤◌}
use mathlib.Core.Path.{◌≡◌, refl, sym, ap, ap₂, ◌∙◌}
use mathlib.Core.Bool.{Bool, true, false, ◌&&◌}
use mathlib.Core.List.{List, [], ◌∷◌, ◌++◌, map, append-nil, append_assoc}
use native.Mathlib.Omega.{arith}
use native.Mathlib.Nat.{pow-le-pow_right, mul-le-mul_left}
use native.Mathlib.Numerals.{unary_clauses}
use borrow.Author.Tests.{leb-true}
use lib.ListN.{length, take, drop, get_or, length-append, length-drop}
use lib.Seq.{get_or-drop, drop-drop}
use lib.Dec.{leb, eqb}
use Rattle.std.specs.Prelude.{if◌then◌else◌}
use Rattle.lists.specs.Arrays.{joined}
use Rattle.lists.proofs.Arrays.{joined-fits}
use Rattle.lists.proofs.Tests.{and_left, and_right}
use Rattle.form.specs.Numbers.{number_in}
use Rattle.form.specs.Rows.{width, row_in, rows_in, table_in, table_size, table_fits}
use Rattle.form.specs.Form.{head_widths, entry_widths, entry_from, is_entry, bucket_widths, bucket_from}

-- one byte more
pub byte_more : (bytes : List ℕ) (at i : ℕ) → number_in (i + 1) (drop at bytes) ≡ number_in i (drop at bytes) * 256 + get_or bytes (at + i) 0
unfolding number_in
byte_more bytes at i = simp unary_clauses (ap (λ (x : ℕ). number_in i (drop at bytes) * 256 + x) (get_or-drop at bytes i 0))

pub small_more : (i n b : ℕ) → n < 256 ^ i → b < 256 → n * 256 + b < 256 ^ (i + 1)
small_more i n b h k = simp unary_clauses (omega arith)

-- the number so far, while it has less than eight bytes
pub below_eight : (i n : ℕ) → i < 8 → n < 256 ^ i → n < 72057594037927936
below_eight i n h small =
    let base : 0 < 256 = omega arith in
    let bound : i ≤ 7 = omega arith in
    omega (arith, pow-le-pow_right base bound)

-- six tests, one after the other or one within the other
pub six_tests : (a b c d e f : Bool) → (((((a && b) && c) && d) && e) && f) ≡ (a && (b && (c && (d && (e && (f && true))))))
six_tests false b c d e f = refl
six_tests true false c d e f = refl
six_tests true true false d e f = refl
six_tests true true true false e f = refl
six_tests true true true true false f = refl
six_tests true true true true true false = refl
six_tests true true true true true true = refl

-- a row's numbers by their places

pub head_at : (l : List ℕ) → row_in head_widths l
    ≡ number_in 2 l ∷ number_in 1 (drop 2 l) ∷ number_in 2 (drop 3 l) ∷ number_in 2 (drop 5 l) ∷ number_in 1 (drop 7 l) ∷ number_in 1 (drop 8 l) ∷ number_in 1 (drop 9 l) ∷ number_in 1 (drop 10 l) ∷ number_in 8 (drop 11 l) ∷ []
unfolding row_in
head_at l = simp drop-drop refl

-- a number of one byte
pub byte_number : (l : List ℕ) (at : ℕ) → number_in 1 (drop at l) ≡ get_or l at 0
unfolding number_in
byte_number l at =
    let same : at + 0 ≡ at = omega arith in
    omega (arith, rw same at (get_or-drop at l 0 0))

pub entry_at : (write : Bool) (l : List ℕ) (at : ℕ) → entry_from (row_in (entry_widths write) (drop at l))
    ≡ record { back = number_in 2 (drop at l); cache = get_or l (at + 2) 0; priority = if write then get_or l (at + 3) 0 else 0; marked = eqb (if write then get_or l (at + 4) 0 else 0) 1; blank = if write then get_or l (at + 5) 0 else 0 }
unfolding row_in entry_widths entry_from
entry_at true l at =
    let third : at + 3 ≡ at + 2 + 1 = omega arith in
    let fourth : at + 4 ≡ at + 2 + 1 + 1 = omega arith in
    let fifth : at + 5 ≡ at + 2 + 1 + 1 + 1 = omega arith in
    rw (third, fourth, fifth) (simp (drop-drop, byte_number) refl)
entry_at false l at = simp (drop-drop, byte_number) refl

pub mark_at : (l : List ℕ) (at : ℕ) → is_entry (row_in (entry_widths true) (drop at l)) ≡ leb (get_or l (at + 4) 0) 1
unfolding row_in entry_widths is_entry
mark_at l at =
    let fourth : at + 4 ≡ at + 2 + 1 + 1 = omega arith in
    rw fourth (simp (drop-drop, byte_number) refl)

pub bucket_at : (l : List ℕ) (at : ℕ) → bucket_from (row_in bucket_widths (drop at l)) ≡ get_or l at 0
unfolding row_in bucket_from
bucket_at l at = byte_number l at

-- a count of one byte or two
count_small : (c n : ℕ) → c ≤ 2 → n < 256 ^ c → n < 65536
count_small c n h small =
    let base : 0 < 256 = omega arith in
    omega (arith, pow-le-pow_right base h)

-- a table's rows, of at most eight bytes each
pub rows_small : (c n row : ℕ) → c ≤ 2 → n < 256 ^ c → row ≤ 8 → n * row ≤ 524288
rows_small c n row h small narrow = omega (arith, count_small c n h small, mul-le-mul_left n narrow)

-- ---- the rows of a table, one after the other

pub next_row : (ws bytes : List ℕ) (from n i : ℕ) → i < n → rows_in ws (n - i) (drop from bytes) ≡ row_in ws (drop from bytes) ∷ rows_in ws (n - (i + 1)) (drop (from + width ws) bytes)
unfolding rows_in
next_row ws bytes from n i h =
    let left : n - i ≡ suc (n - (i + 1)) = omega arith in
    rw (left, drop-drop (width ws) from bytes)

module _ {A : Type 0} (ws : List ℕ) (made : List ℕ → A) where
  -- of n rows from the place `start` on the first i are made
  pub record Made (bytes : List ℕ) (start n : ℕ) (done : List A) (i : ℕ) : Type 0 where
    pub whole : done ++ map made (rows_in ws (n - i) (drop (start + i * width ws) bytes)) ≡ map made (rows_in ws n (drop start bytes))
    pub counted : length done ≡ i

  pub none_made : (bytes : List ℕ) (start n : ℕ) → Made bytes start n [] 0
  none_made bytes start n =
      let all : n - 0 ≡ n = omega arith in
      let first : start + 0 * width ws ≡ start = omega arith in
      record { whole = rw (all, first); counted = refl }

  pub row_made : {bytes : List ℕ} {start n : ℕ} {done : List A} {i : ℕ} → i < n → Made bytes start n done i
      → Made bytes start n (done ++ (made (row_in ws (drop (start + i * width ws) bytes)) ∷ [])) (i + 1)
  row_made {bytes} {start} {n} {done} {i} h m =
      let from = start + i * width ws in
      let next : start + (i + 1) * width ws ≡ from + width ws = omega arith in
      let row = made (row_in ws (drop from bytes)) in
      let rest = map made (rows_in ws (n - (i + 1)) (drop (from + width ws) bytes)) in
      record {
        whole = rw next (append_assoc done (row ∷ []) rest ∙ sym (ap (λ (l : List (List ℕ)). done ++ map made l) (next_row ws bytes from n i h)) ∙ m.whole);
        counted = length-append done (row ∷ []) ∙ omega (arith, m.counted);
      }

  -- none is left to be made
  pub all_made : {bytes : List ℕ} {start n : ℕ} {done : List A} {i : ℕ} → n ≤ i → Made bytes start n done i → done ≡ map made (rows_in ws n (drop start bytes))
  unfolding rows_in
  all_made {n = n} {done = done} {i = i} h m =
      let none : n - i ≡ 0 = omega arith in
      sym (append-nil done) ∙ rw none at m.whole

-- the next row is there
pub row_there : (start wide n i : ℕ) → i < n → start + i * wide + wide ≤ start + n * wide
row_there start wide n i h =
    let next : i + 1 ≤ n = omega arith in
    omega (arith, mul-le-mul_left wide next)

-- a bucket's row is the bucket itself
pub buckets_are : (n : ℕ) (l : List ℕ) → n ≤ length l → map bucket_from (rows_in bucket_widths n l) ≡ take n l
unfolding rows_in width
buckets_are zero l h = refl
buckets_are (suc n) [] h = absurd (omega arith)
buckets_are (suc n) (c ∷ l) h = ap₂ (λ x r. x ∷ r) (bucket_at (c ∷ l) 0) (buckets_are n l (omega arith))

-- the table at a place: its rows, and that they are there
module _ (c : ℕ) (ws : List ℕ) (bytes : List ℕ) (at n : ℕ) (count : n ≡ number_in c (drop at bytes)) where
  pub table_at : table_in c ws (drop at bytes) ≡ rows_in ws n (drop (at + c) bytes)
  unfolding table_in
  table_at = rw (← count, drop-drop c at bytes)

  pub table_room : (most : ℕ) → at ≤ length bytes → table_fits c ws most (drop at bytes) ≡ true → (n ≤ most) × (at + c + n * width ws ≤ length bytes)
  unfolding table_fits table_size
  table_room most inside fits =
      let few = leb-true (number_in c (drop at bytes)) most (and_left (leb (number_in c (drop at bytes)) most) (leb (table_size c ws (drop at bytes)) (length (drop at bytes))) fits) in
      let there = leb-true (table_size c ws (drop at bytes)) (length (drop at bytes)) (and_right (leb (number_in c (drop at bytes)) most) (leb (table_size c ws (drop at bytes)) (length (drop at bytes))) fits) in
      (omega (arith, few), omega (arith, rw (← count) at there, length-drop at bytes))

-- one more in a queue that has a place for it
pub joined_more : {A : Type 0} (places : ℕ) (l : List A) (x : A) → length l < places → joined places l (x ∷ []) ≡ l ++ (x ∷ [])
joined_more places l x h = joined-fits places l (x ∷ []) (omega (arith, length-append l (x ∷ [])))

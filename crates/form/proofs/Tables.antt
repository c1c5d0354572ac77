-- Rows and tables and their bytes are each other's inverse.
use Prim.Native.Nat.{ℕ, zero, suc, ◌+◌, ◌*◌, ◌^◌, ◌≤◌, ◌<◌}
use mathlib.Core.Path.{◌≡◌, refl, sym, ap, ◌∙◌}
use mathlib.Core.Bool.{Bool, true, true≢false}
use mathlib.Core.List.{List, [], ◌∷◌, ◌++◌, map, append_assoc}
use native.Mathlib.Omega.{arith}
use borrow.Author.Tests.{ltb-true, lt-ltb, leb-true, le-leb}
use lib.ListN.{length, take, drop, get_or, length-append, length-drop, length-map, take-append-drop}
use lib.Seq.{drop_at, take-add}
use lib.Dec.{leb}
use Rattle.lists.specs.Lists.{all, concat_map}
use Rattle.lists.proofs.Tests.{and_left, and_right, and-true}
use Rattle.lists.proofs.Arrays.{all_drop}
use Rattle.form.specs.Numbers.{number_bytes, number_in, in_bytes}
use Rattle.form.specs.Rows.{width, row_bytes, row_in, row_fits, rows_in, table_bytes, table_in, table_size, table_fits, behind}
use Rattle.form.proofs.Numbers.{number_length, number_back, number_small, number_bytes_lem}

-- ---- tests of all elements

module _ {A B : Type 0} (t : A → Bool) (f : A → B) where
  pub all_mapped : (s : B → Bool) → ((x : A) → t x ≡ true → s (f x) ≡ true) → (l : List A) → all t l ≡ true → all s (map f l) ≡ true
  unfolding all
  all_mapped s each [] h = refl
  all_mapped s each (x ∷ l) h = and-true (each x (and_left (t x) (all t l) h)) (all_mapped s each l (and_right (t x) (all t l) h))

  pub map_back : (g : B → A) → ((x : A) → t x ≡ true → g (f x) ≡ x) → (l : List A) → all t l ≡ true → map g (map f l) ≡ l
  unfolding all
  map_back g each [] h = refl
  map_back g each (x ∷ l) h = rw (each x (and_left (t x) (all t l) h), map_back g each l (and_right (t x) (all t l) h))

-- ---- rows that fit

-- number k of a row has room in width k; both are 0 past the end
pub row_at : (ws ns : List ℕ) → row_fits ws ns ≡ true → (k : ℕ) → in_bytes (get_or ws k 0) (get_or ns k 0) ≡ true
unfolding row_fits in_bytes
row_at [] [] h k = refl
row_at [] (n ∷ ns) h k = absurd (true≢false (sym h))
row_at (w ∷ ws) [] h k = absurd (true≢false (sym h))
row_at (w ∷ ws) (n ∷ ns) h zero = and_left (in_bytes w n) (row_fits ws ns) h
row_at (w ∷ ws) (n ∷ ns) h (suc k) = row_at ws ns (and_right (in_bytes w n) (row_fits ws ns) h) k

pub row_join : (ws ns vs ms : List ℕ) → row_fits ws ns ≡ true → row_fits vs ms ≡ true → row_fits (ws ++ vs) (ns ++ ms) ≡ true
unfolding row_fits
row_join [] [] vs ms h k = k
row_join [] (n ∷ ns) vs ms h k = absurd (true≢false (sym h))
row_join (w ∷ ws) [] vs ms h k = absurd (true≢false (sym h))
row_join (w ∷ ws) (n ∷ ns) vs ms h k =
    and-true (and_left (in_bytes w n) (row_fits ws ns) h) (row_join ws ns vs ms (and_right (in_bytes w n) (row_fits ws ns) h) k)

-- as many numbers as widths
pub row_wide : (ws ns : List ℕ) → length ns ≡ length ws → length (row_bytes ws ns) ≡ width ws
unfolding width row_bytes
row_wide [] [] e = refl
row_wide [] (n ∷ ns) e = absurd (omega arith)
row_wide (w ∷ ws) [] e = absurd (omega arith)
row_wide (w ∷ ws) (n ∷ ns) e = length-append (number_bytes w n) (row_bytes ws ns) ∙ rw (number_length w n, row_wide ws ns (omega arith))

row_shaped : (ws ns : List ℕ) → row_fits ws ns ≡ true → length ns ≡ length ws
unfolding row_fits
row_shaped [] [] h = refl
row_shaped [] (n ∷ ns) h = absurd (true≢false (sym h))
row_shaped (w ∷ ws) [] h = absurd (true≢false (sym h))
row_shaped (w ∷ ws) (n ∷ ns) h = ap suc (row_shaped ws ns (and_right (in_bytes w n) (row_fits ws ns) h))

pub row-length : (ws ns : List ℕ) → row_fits ws ns ≡ true → length (row_bytes ws ns) ≡ width ws
row-length ws ns h = row_wide ws ns (row_shaped ws ns h)

-- ---- a row, then the rest

pub row_back : (ws ns rest : List ℕ) → row_fits ws ns ≡ true → row_in ws (row_bytes ws ns ++ rest) ≡ ns
unfolding row_fits row_bytes row_in in_bytes
row_back [] [] rest h = refl
row_back [] (n ∷ ns) rest h = absurd (true≢false (sym h))
row_back (w ∷ ws) [] rest h = absurd (true≢false (sym h))
row_back (w ∷ ws) (n ∷ ns) rest h =
    let first : n < 256 ^ w = ltb-true n (256 ^ w) (and_left (in_bytes w n) (row_fits ws ns) h) in
    let more = row_bytes ws ns ++ rest in
    rw (
      append_assoc (number_bytes w n) (row_bytes ws ns) rest,
      number_back w n more first,
      drop_at (number_bytes w n) more w (number_length w n),
      row_back ws ns rest (and_right (in_bytes w n) (row_fits ws ns) h),
    )

pub row-behind : (ws ns rest : List ℕ) → row_fits ws ns ≡ true → drop (width ws) (row_bytes ws ns ++ rest) ≡ rest
row-behind ws ns rest h = drop_at (row_bytes ws ns) rest (width ws) (row-length ws ns h)

pub row_small : (ws l : List ℕ) → all (in_bytes 1) l ≡ true → row_fits ws (row_in ws l) ≡ true
unfolding row_fits row_in in_bytes
row_small [] l h = refl
row_small (w ∷ ws) l h = and-true (lt-ltb (number_in w l) (256 ^ w) (number_small w l h)) (row_small ws (drop w l) (all_drop (in_bytes 1) w l h))

row_bytes_lem : (ws l : List ℕ) → width ws ≤ length l → all (in_bytes 1) l ≡ true → row_bytes ws (row_in ws l) ≡ take (width ws) l
unfolding row_bytes row_in width
row_bytes_lem [] l fits h = refl
row_bytes_lem (w ∷ ws) l fits h =
    let more : width ws ≤ length (drop w l) = omega (arith, length-drop w l) in
    rw (number_bytes_lem w l (omega arith) h, row_bytes_lem ws (drop w l) more (all_drop (in_bytes 1) w l h)) (sym (take-add w (width ws) l))

pub row_whole : (ws l : List ℕ) → width ws ≤ length l → all (in_bytes 1) l ≡ true → row_bytes ws (row_in ws l) ++ drop (width ws) l ≡ l
row_whole ws l fits h = rw (row_bytes_lem ws l fits h) (take-append-drop (width ws) l)

-- ---- rows of the same widths

module _ (ws : List ℕ) where
  rows_count : (n : ℕ) (l : List ℕ) → length (rows_in ws n l) ≡ n
  unfolding rows_in
  rows_count zero l = refl
  rows_count (suc n) l = ap suc (rows_count n (drop (width ws) l))

  rows_length : (rows : List (List ℕ)) → all (row_fits ws) rows ≡ true → length (concat_map (row_bytes ws) rows) ≡ length rows * width ws
  unfolding all concat_map
  rows_length [] h = omega arith
  rows_length (r ∷ rows) h =
      let first = row-length ws r (and_left (row_fits ws r) (all (row_fits ws) rows) h) in
      let more = rows_length rows (and_right (row_fits ws r) (all (row_fits ws) rows) h) in
      omega (arith, length-append (row_bytes ws r) (concat_map (row_bytes ws) rows))

  rows_back : (rows : List (List ℕ)) (rest : List ℕ) → all (row_fits ws) rows ≡ true → rows_in ws (length rows) (concat_map (row_bytes ws) rows ++ rest) ≡ rows
  unfolding all concat_map rows_in
  rows_back [] rest h = refl
  rows_back (r ∷ rows) rest h =
      let first = and_left (row_fits ws r) (all (row_fits ws) rows) h in
      let more = concat_map (row_bytes ws) rows ++ rest in
      rw (
        append_assoc (row_bytes ws r) (concat_map (row_bytes ws) rows) rest,
        row_back ws r more first,
        row-behind ws r more first,
        rows_back rows rest (and_right (row_fits ws r) (all (row_fits ws) rows) h),
      )

  rows_bytes : (n : ℕ) (l : List ℕ) → n * width ws ≤ length l → all (in_bytes 1) l ≡ true → concat_map (row_bytes ws) (rows_in ws n l) ≡ take (n * width ws) l
  unfolding concat_map rows_in
  rows_bytes zero l fits h = let e : 0 * width ws ≡ 0 = omega arith in rw e
  rows_bytes (suc n) l fits h =
      let e : suc n * width ws ≡ width ws + n * width ws = omega arith in
      let more : n * width ws ≤ length (drop (width ws) l) = omega (arith, length-drop (width ws) l) in
      rw (e, row_bytes_lem ws l (omega arith) h, rows_bytes n (drop (width ws) l) more (all_drop (in_bytes 1) (width ws) l h)) (sym (take-add (width ws) (n * width ws) l))

  -- every row passes the test
  pub rows_pass : (t : List ℕ → Bool) → ((l : List ℕ) → all (in_bytes 1) l ≡ true → t (row_in ws l) ≡ true)
      → (n : ℕ) (l : List ℕ) → all (in_bytes 1) l ≡ true → all t (rows_in ws n l) ≡ true
  unfolding all rows_in
  rows_pass t each zero l h = refl
  rows_pass t each (suc n) l h = and-true (each l h) (rows_pass t each n (drop (width ws) l) (all_drop (in_bytes 1) (width ws) l h))

  module _ {A : Type 0} (f : List ℕ → A) where
    -- what is made of every row passes the test
    pub rows_made : (t : A → Bool) → ((l : List ℕ) → all (in_bytes 1) l ≡ true → t (f (row_in ws l)) ≡ true)
        → (n : ℕ) (l : List ℕ) → all (in_bytes 1) l ≡ true → all t (map f (rows_in ws n l)) ≡ true
    rows_made t each n l h = all_mapped (λ (r : List ℕ). t (f r)) f t (λ r k. k) (rows_in ws n l) (rows_pass (λ (r : List ℕ). t (f r)) each n l h)

    -- what is made of every row gives that row, if they pass a test
    rows_kept : (t : List ℕ → Bool) (g : A → List ℕ) → ((l : List ℕ) → t (row_in ws l) ≡ true → g (f (row_in ws l)) ≡ row_in ws l)
        → (n : ℕ) (l : List ℕ) → all t (rows_in ws n l) ≡ true → map g (map f (rows_in ws n l)) ≡ rows_in ws n l
    unfolding all rows_in
    rows_kept t g each zero l h = refl
    rows_kept t g each (suc n) l h =
        let more = drop (width ws) l in
        rw (each l (and_left (t (row_in ws l)) (all t (rows_in ws n more)) h), rows_kept t g each n more (and_right (t (row_in ws l)) (all t (rows_in ws n more)) h))

-- ---- a table, then the rest

module _ (c : ℕ) (ws : List ℕ) where
  table_length : (rows : List (List ℕ)) → all (row_fits ws) rows ≡ true → length (table_bytes c ws rows) ≡ c + length rows * width ws
  unfolding table_bytes
  table_length rows h =
      rw (length-append (number_bytes c (length rows)) (concat_map (row_bytes ws) rows), number_length c (length rows), rows_length ws rows h)

  -- the table of rows that fit, with room for their count
  module _ (rows : List (List ℕ)) (rest : List ℕ) (fit : all (row_fits ws) rows ≡ true) (few : length rows < 256 ^ c) where
    abbrev from_count : List ℕ
    from_count = table_bytes c ws rows ++ rest

    abbrev from_rows : List ℕ
    from_rows = concat_map (row_bytes ws) rows ++ rest

    count_then_rows : from_count ≡ number_bytes c (length rows) ++ from_rows
    unfolding table_bytes
    count_then_rows = append_assoc (number_bytes c (length rows)) (concat_map (row_bytes ws) rows) rest

    table_count : number_in c (table_bytes c ws rows ++ rest) ≡ length rows
    table_count = rw count_then_rows (number_back c (length rows) from_rows few)

    table_size_lem : table_size c ws (table_bytes c ws rows ++ rest) ≡ length (table_bytes c ws rows)
    unfolding table_size
    table_size_lem = rw (table_count, table_length rows fit)

    table_back : table_in c ws (table_bytes c ws rows ++ rest) ≡ rows
    unfolding table_in
    table_back = rw (table_count, count_then_rows, drop_at (number_bytes c (length rows)) from_rows c (number_length c (length rows))) (rows_back ws rows rest fit)

    table_behind : behind c ws (table_bytes c ws rows ++ rest) ≡ rest
    unfolding behind
    table_behind = drop_at (table_bytes c ws rows) rest (table_size c ws from_count) (sym table_size_lem)

    table_fits_lem : (most : ℕ) → length rows ≤ most → table_fits c ws most (table_bytes c ws rows ++ rest) ≡ true
    unfolding table_fits
    table_fits_lem most h =
        and-true (le-leb (number_in c from_count) most (omega (arith, table_count)))
        (le-leb (table_size c ws from_count) (length from_count) (omega (arith, table_size_lem, length-append (table_bytes c ws rows) rest)))

  -- the table that bytes begin with
  module _ (most : ℕ) (l : List ℕ) (fits : table_fits c ws most l ≡ true) where
    table_few : length (table_in c ws l) ≤ most
    unfolding table_fits table_in
    table_few = rw (rows_count ws (number_in c l) (drop c l)) (leb-true (number_in c l) most (and_left (leb (number_in c l) most) (leb (table_size c ws l) (length l)) fits))

    table_there : c + number_in c l * width ws ≤ length l
    unfolding table_fits table_size
    table_there = leb-true (table_size c ws l) (length l) (and_right (leb (number_in c l) most) (leb (table_size c ws l) (length l)) fits)

    table_bytes_lem : all (in_bytes 1) l ≡ true → table_bytes c ws (table_in c ws l) ≡ take (table_size c ws l) l
    unfolding table_bytes table_in table_size
    table_bytes_lem h =
        let there = table_there in
        let n = number_in c l in
        let rows-there : n * width ws ≤ length (drop c l) = omega (arith, length-drop c l) in
        rw (
          rows_count ws n (drop c l),
          number_bytes_lem c l (omega arith) h,
          rows_bytes ws n (drop c l) rows-there (all_drop (in_bytes 1) c l h),
        )
        (sym (take-add c (n * width ws) l))

    table_whole : all (in_bytes 1) l ≡ true → table_bytes c ws (table_in c ws l) ++ behind c ws l ≡ l
    unfolding behind
    table_whole h = rw (table_bytes_lem h) (take-append-drop (table_size c ws l) l)

-- ---- a table of values, each of them one row, then the rest

-- what is read of bytes that begin with the table of xs
pub record Read {A : Type 0} (c : ℕ) (ws : List ℕ) (most : ℕ) (to : A → List ℕ) (from : List ℕ → A) (xs : List A) (l rest : List ℕ) : Type 0 where
  pub fits : table_fits c ws most l ≡ true
  pub rows : table_in c ws l ≡ map to xs
  pub values : map from (table_in c ws l) ≡ xs
  pub behind_is : behind c ws l ≡ rest

-- what is written of the values that bytes begin with
pub record Written {A : Type 0} (c : ℕ) (ws : List ℕ) (most : ℕ) (to : A → List ℕ) (t : A → Bool) (xs : List A) (l : List ℕ) : Type 0 where
  pub few : leb (length xs) most ≡ true
  pub passed : all t xs ≡ true
  pub whole : table_bytes c ws (map to xs) ++ behind c ws l ≡ l
  pub behind_bytes : all (in_bytes 1) (behind c ws l) ≡ true

module _ {A : Type 0} (c : ℕ) (ws : List ℕ) (most : ℕ) (to : A → List ℕ) (from : List ℕ → A) where
  pub values_read : (xs : List A) (l rest : List ℕ) → most < 256 ^ c → leb (length xs) most ≡ true → all (row_fits ws) (map to xs) ≡ true → map from (map to xs) ≡ xs
      → l ≡ table_bytes c ws (map to xs) ++ rest → Read c ws most to from xs l rest
  values_read xs l rest room short fit same e =
      let rows = map to xs in
      let count : length rows ≤ most = rw (length-map xs to) (leb-true (length xs) most short) in
      let fewer : length rows < 256 ^ c = omega arith in
      record {
        fits = rw e (table_fits_lem c ws rows rest fit fewer most count);
        rows = rw e (table_back c ws rows rest fit fewer);
        values = rw e (ap (map from) (table_back c ws rows rest fit fewer) ∙ same);
        behind_is = rw e (table_behind c ws rows rest fit fewer);
      }

  pub values_written : (t : A → Bool) (u : List ℕ → Bool) → ((l : List ℕ) → all (in_bytes 1) l ≡ true → t (from (row_in ws l)) ≡ true)
      → ((l : List ℕ) → u (row_in ws l) ≡ true → to (from (row_in ws l)) ≡ row_in ws l)
      → (l : List ℕ) → table_fits c ws most l ≡ true → all u (table_in c ws l) ≡ true → all (in_bytes 1) l ≡ true → Written c ws most to t (map from (table_in c ws l)) l
  unfolding table_in behind
  values_written t u made kept l fits pass h = record {
    few = rw (length-map (table_in c ws l) from) (le-leb (length (table_in c ws l)) most (table_few c ws most l fits));
    passed = rows_made ws from t made (number_in c l) (drop c l) (all_drop (in_bytes 1) c l h);
    whole = rw (rows_kept ws from u to kept (number_in c l) (drop c l) pass) (table_whole c ws most l fits h);
    behind_bytes = all_drop (in_bytes 1) (table_size c ws l) l h;
  }

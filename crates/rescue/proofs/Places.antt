-- A column searched for a number, and the buckets that the number stands beside.
use Prim.Native.Nat.{ℕ, zero, suc, ◌+◌, ◌-◌, ◌≤◌, ◌<◌}
use mathlib.Core.Path.{◌≡◌, refl, sym, ap, ◌∙◌}
use mathlib.Core.Bool.{Bool, true, false, ◌||◌, true≢false}
use mathlib.Core.List.{List, [], ◌∷◌, ◌++◌, append_assoc, append-nil}
use native.Mathlib.Numerals.{add-one}
use native.Mathlib.Omega.{arith}
use native.Mathlib.Decide.{dec_lt}
use lib.Dec.{eqb}
use lib.ListN.{length, drop, get_or, drop_of_length-le}
use lib.Seq.{drop-cons}
use borrow.Author.Tests.{eq-eqb}
use Rattle.std.specs.Prelude.{if◌then◌else◌}
use Rattle.lists.specs.Lists.{all, any, head, member, part}
use Rattle.lists.proofs.Tests.{and_left, and_right, and-true}
use Rattle.lists.proofs.Members.{member-step, member_end}
use Rattle.lists.proofs.Parts.{get_d_part, length-part-fits}
use Rattle.model.specs.State.{is_below}
use Rattle.rescue.specs.Beside.{beside, Passed}

-- ---- places passed

none_of : (x : ℕ) (l : List ℕ) → member x l ≡ false → (i : ℕ) → i < length l → eqb x (get_or l i 0) ≡ false
unfolding member any
none_of x [] h i k = absurd (omega arith)
none_of x (y ∷ l) h i k = go (eqb x y) refl h i k (λ q. none_of x l q)
  where
    go : (t : Bool) → eqb x y ≡ t → t || member x l ≡ false → (i : ℕ) → i < length (y ∷ l) → (member x l ≡ false → (j : ℕ) → j < length l → eqb x (get_or l j 0) ≡ false)
        → eqb x (get_or (y ∷ l) i 0) ≡ false
    go true e q i k r = absurd (true≢false q)
    go false e q zero k r = e
    go false e q (suc i) k r = r q i (omega arith)

module _ (x : ℕ) (column : List ℕ) {from at : ℕ} (passed : Passed x column from at) where
  -- a part without x
  pub passed_part : (k : ℕ) → at + k ≤ length column → member x (part column at k) ≡ false → Passed x column from (at + k)
  passed_part k h e = record { low = omega (arith, passed.low); high = h; none = λ j a b. go j a b (dec_lt j at) }
    where
      go : (j : ℕ) → from ≤ j → j < at + k → Dec (j < at) → eqb x (get_or column j 0) ≡ false
      go j a b (yes u) = passed.none j a u
      go j a b (no u) =
          let place : at + (j - at) ≡ j = omega arith in
          rw (get_d_part column at k (j - at) (omega arith), place) at (none_of x (part column at k) e (j - at) (omega (arith, length-part-fits column at k h)))

-- what each step leaves as it is
along : {A : Type 0} (f : ℕ → A) (k i : ℕ) → ((j : ℕ) → i ≤ j → j < i + k → f j ≡ f (j + 1)) → f i ≡ f (i + k)
along f zero i h = ap f (omega arith)
along f (suc k) i h = h i (omega arith) (omega arith) ∙ along f k (i + 1) (λ j a b. h j (omega arith) (omega arith)) ∙ ap f (omega arith)

-- ---- buckets beside a number

module _ (x : ℕ) (column order : List ℕ) (i : ℕ) where
  beside-step : i < length column → i < length order
      → beside x (drop i column) (drop i order)
      ≡ (if eqb x (get_or column i 0) then get_or order i 0 ∷ beside x (drop (i + 1) column) (drop (i + 1) order) else beside x (drop (i + 1) column) (drop (i + 1) order))
  unfolding beside
  beside-step h k = rw (add-one i, drop-cons column i 0 h, drop-cons order i 0 k)

  beside_end : length column ≤ i → beside x (drop i column) (drop i order) ≡ []
  unfolding beside
  beside_end h = rw (drop_of_length-le column h)

module _ (x : ℕ) (column order : List ℕ) (same : length column ≡ length order) {from r : ℕ} (passed : Passed x column from r) where
  reached : from + (r - from) ≡ r
  reached = omega (arith, passed.low)

  beside_passed : beside x (drop from column) (drop from order) ≡ beside x (drop r column) (drop r order)
  beside_passed = along (λ (j : ℕ). beside x (drop j column) (drop j order)) (r - from) from step ∙ rw reached
    where
      step : (j : ℕ) → from ≤ j → j < from + (r - from) → beside x (drop j column) (drop j order) ≡ beside x (drop (j + 1) column) (drop (j + 1) order)
      step j a b =
          let inside : j < length column = omega (arith, reached, passed.high) in
          beside-step x column order j inside (omega arith) ∙ rw (passed.none j a (omega (arith, reached)))

  member_passed : member x (drop from column) ≡ member x (drop r column)
  member_passed = along (λ (j : ℕ). member x (drop j column)) (r - from) from step ∙ rw reached
    where
      step : (j : ℕ) → from ≤ j → j < from + (r - from) → member x (drop j column) ≡ member x (drop (j + 1) column)
      step j a b = member-step column j x (omega (arith, reached, passed.high)) ∙ rw (passed.none j a (omega (arith, reached)))

-- the first place of all
module _ (x : ℕ) (column order : List ℕ) (same : length column ≡ length order) {r : ℕ} (passed : Passed x column 0 r) where
  pub found-member : r < length column → x ≡ get_or column r 0 → member x column ≡ true
  found-member h e = member_passed x column order same passed ∙ member-step column r x h ∙ rw (eq-eqb x (get_or column r 0) e)

  pub found_first : r < length column → x ≡ get_or column r 0 → head (beside x column order) ≡ get_or order r 0
  unfolding head
  found_first h e = ap head (beside_passed x column order same passed ∙ beside-step x column order r h (omega arith)) ∙ rw (eq-eqb x (get_or column r 0) e)

  pub found_none : length column ≤ r → member x column ≡ false
  found_none h = member_passed x column order same passed ∙ member_end column r x h

-- ---- buckets listed

module _ (x : ℕ) (column order : List ℕ) (same : length column ≡ length order) where
  -- all that x stands beside is listed, or follows from a place on; the next place where x stands
  pub listed_passed : (front : List ℕ) {i r : ℕ} → Passed x column i r → front ++ beside x (drop i column) (drop i order) ≡ front ++ beside x (drop r column) (drop r order)
  listed_passed front p = ap (λ (l : List ℕ). front ++ l) (beside_passed x column order same p)

  pub listed_next : (front : List ℕ) (i : ℕ) → i < length column → x ≡ get_or column i 0
      → front ++ beside x (drop i column) (drop i order) ≡ (front ++ (get_or order i 0 ∷ [])) ++ beside x (drop (i + 1) column) (drop (i + 1) order)
  listed_next front i h e =
      rw (beside-step x column order i h (omega arith), eq-eqb x (get_or column i 0) e)
      (sym (append_assoc front (get_or order i 0 ∷ []) (beside x (drop (i + 1) column) (drop (i + 1) order))))

  pub listed_last : (front : List ℕ) (i : ℕ) → length column ≤ i → front ++ beside x (drop i column) (drop i order) ≡ front
  listed_last front i h = rw (beside_end x column order i h, append-nil)

-- they are buckets of the order
beside-below : (x n : ℕ) (column order : List ℕ) → all (is_below n) order ≡ true → all (is_below n) (beside x column order) ≡ true
unfolding beside all
beside-below x n [] order h = refl
beside-below x n (y ∷ column) [] h = refl
beside-below x n (y ∷ column) (c ∷ order) h = go (eqb x y) (beside-below x n column order (and_right (is_below n c) (all (is_below n) order) h))
  where
    go : (t : Bool) → all (is_below n) (beside x column order) ≡ true → all (is_below n) (if t then c ∷ beside x column order else beside x column order) ≡ true
    go true r = and-true (and_left (is_below n c) (all (is_below n) order) h) r
    go false r = r

pub logs_below : (x n : ℕ) (column order : List ℕ) (t : Bool) → all (is_below n) order ≡ true → all (is_below n) (if t then beside x column order else []) ≡ true
unfolding all
logs_below x n column order true h = beside-below x n column order h
logs_below x n column order false h = refl

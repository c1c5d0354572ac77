-- The test that two lists are the same.
use Prim.Native.Nat.{ℕ, suc, ◌+◌, ◌<◌, ◌≤◌}
use mathlib.Core.Path.{◌≡◌, refl, sym, ap, ap₂}
use mathlib.Core.Bool.{true, false, ◌&&◌, true≢false}
use mathlib.Core.List.{List, [], ◌∷◌}
use native.Mathlib.Numerals.{add-one}
use lib.ListN.{length, drop, get_or, drop_of_length-le}
use lib.Seq.{drop-cons}
use lib.Dec.{eqb}
use borrow.Author.Tests.{eqb-true, eq-eqb}
use Rattle.lists.specs.Lists.{same}
use Rattle.lists.proofs.Tests.{and_left, and_right, and-true, and_false}

pub same_equal : (l m : List ℕ) → same l m ≡ true → l ≡ m
unfolding same
same_equal [] [] h = refl
same_equal [] (y ∷ m) h = absurd (true≢false (sym h))
same_equal (x ∷ l) [] h = absurd (true≢false (sym h))
same_equal (x ∷ l) (y ∷ m) h =
    ap₂ (λ (v : ℕ) (r : List ℕ). v ∷ r) (eqb-true x y (and_left (eqb x y) (same l m) h)) (same_equal l m (and_right (eqb x y) (same l m) h))

pub same_self : (l : List ℕ) → same l l ≡ true
unfolding same
same_self [] = refl
same_self (x ∷ l) = and-true (eq-eqb x x refl) (same_self l)

-- ---- the test from an index on, as a loop makes it

module _ (a b : List ℕ) (i : ℕ) where
  pub same_more : i < length a → i < length b → same (drop i a) (drop i b) ≡ (eqb (get_or a i 0) (get_or b i 0) && same (drop (i + 1) a) (drop (i + 1) b))
  unfolding same
  same_more ha hb = rw (add-one i, drop-cons a i 0 ha, drop-cons b i 0 hb)

  -- past the end of both
  pub same_end : length a ≤ i → length b ≤ i → same (drop i a) (drop i b) ≡ true
  unfolding same
  same_end ha hb = rw (drop_of_length-le a ha, drop_of_length-le b hb)

-- lists of two lengths differ
pub same-lengths : (a b : List ℕ) → (length a ≡ length b → ⊥) → same a b ≡ false
unfolding same
same-lengths [] [] h = absurd (h refl)
same-lengths [] (y ∷ ys) h = refl
same-lengths (x ∷ xs) [] h = refl
same-lengths (x ∷ xs) (y ∷ ys) h = rw (same-lengths xs ys (λ e. h (ap suc e))) (and_false (eqb x y))

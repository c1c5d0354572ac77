-- One more turn of a loop: a test, a count, or a selection below a bound.
use mathlib.Core.Path.{◌≡◌, refl, ap, ◌∙◌}
use mathlib.Core.Bool.{Bool, true, false, ◌&&◌}
use mathlib.Core.List.{List, [], ◌∷◌, ◌++◌, map, append-nil}
use Prim.Native.Nat.{ℕ, ◌+◌}
use native.Mathlib.Numerals.{add-one}
use Rattle.std.specs.Prelude.{if◌then◌else◌}
use Rattle.lists.specs.Lists.{row, below, all_below, count_below, keep}
use Rattle.lists.proofs.Rows.{map_append}

module _ {A : Type 0} (t : A → Bool) where
  pub keep_append : (xs ys : List A) → keep t (xs ++ ys) ≡ keep t xs ++ keep t ys
  unfolding keep
  keep_append [] ys = refl
  keep_append (x ∷ xs) ys = rw (keep_append xs ys) (by_test (t x))
    where
      by_test : (b : Bool) → (if b then x ∷ (keep t xs ++ keep t ys) else keep t xs ++ keep t ys) ≡ (if b then x ∷ keep t xs else keep t xs) ++ keep t ys
      by_test true = refl
      by_test false = refl

module _ (k : ℕ) (t : ℕ → Bool) where
  pub all_more : all_below (k + 1) t ≡ (all_below k t && t k)
  unfolding all_below
  all_more = rw (add-one k)

  pub count_more : t k ≡ true → count_below (k + 1) t ≡ count_below k t + 1
  unfolding count_below
  count_more h = rw (add-one k, h)

  pub count_same : t k ≡ false → count_below (k + 1) t ≡ count_below k t
  unfolding count_below
  count_same h = rw (add-one k, h)

  kept : keep t (below (k + 1)) ≡ keep t (below k) ++ keep t (k ∷ [])
  unfolding below row
  kept = rw (add-one k) (keep_append t (below k) (k ∷ []))

  pub keep_more : {A : Type 0} (f : ℕ → A) → t k ≡ true → map f (keep t (below (k + 1))) ≡ map f (keep t (below k)) ++ (f k ∷ [])
  unfolding keep
  keep_more f h = ap (map f) kept ∙ map_append f (keep t (below k)) (keep t (k ∷ [])) ∙ rw h

  pub keep_same : {A : Type 0} (f : ℕ → A) → t k ≡ false → map f (keep t (below (k + 1))) ≡ map f (keep t (below k))
  unfolding keep
  keep_same f h = ap (map f) kept ∙ rw (h, append-nil)

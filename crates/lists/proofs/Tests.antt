-- Laws of tests: both, either, every, and choices by a test.
use Prim.Native.Nat.{ℕ, zero, suc, ◌≤◌}
use mathlib.Core.Path.{◌≡◌, refl, sym}
use mathlib.Core.Logic.{◌⊎◌, inl, inr}
use mathlib.Core.Bool.{Bool, true, false, ◌&&◌, ◌||◌, and_assoc, true≢false, and-true as and-end}
use mathlib.Core.List.{List, [], ◌∷◌}
use lib.ListN.{get_or}
use lib.Dec.{leb}
use borrow.Author.Tests.{leb-true, le-leb}
use Rattle.std.specs.Prelude.{if◌then◌else◌}
use Rattle.lists.specs.Lists.{every, within}

pub true_or_false : (t : Bool) → (t ≡ true) ⊎ (t ≡ false)
true_or_false true = inl refl
true_or_false false = inr refl

pub and_left : (s t : Bool) → s && t ≡ true → s ≡ true
and_left true t h = refl
and_left false t h = h

pub and_right : (s t : Bool) → s && t ≡ true → t ≡ true
and_right true t h = h
and_right false t h = absurd (true≢false (sym h))

pub every_three : (a b c : Bool) → a && b && c ≡ every (a ∷ b ∷ c ∷ [])
unfolding every
every_three a b c = simp (and_assoc, and-end)

pub every-four : (a b c d : Bool) → a && b && c && d ≡ every (a ∷ b ∷ c ∷ d ∷ [])
unfolding every
every-four a b c d = simp (and_assoc, and-end)

pub and-true : {s t : Bool} → s ≡ true → t ≡ true → s && t ≡ true
and-true h k = rw (h, k)

pub and_false : (t : Bool) → t && false ≡ false
and_false true = refl
and_false false = refl

-- tests that are passed together
pub same_truth : (s t : Bool) → (s ≡ true → t ≡ true) → (t ≡ true → s ≡ true) → s ≡ t
same_truth true t h k = sym (h refl)
same_truth false true h k = k refl
same_truth false false h k = refl

pub or_left : (s t : Bool) → s ≡ true → s || t ≡ true
or_left s t h = rw h

pub or-true : (t : Bool) → t || true ≡ true
or-true true = refl
or-true false = refl

pub or_second : (s t : Bool) → t ≡ true → s || t ≡ true
or_second s t h = rw h (or-true s)

-- what is left of an alternative whose first half fails
pub or_right : (s t : Bool) → s || t ≡ true → s ≡ false → t ≡ true
or_right true t h e = absurd (true≢false e)
or_right false t h e = h

pub or_cases : (s t : Bool) → s || t ≡ true → (s ≡ true) ⊎ (t ≡ true)
or_cases true t h = inl refl
or_cases false t h = inr h

pub if_true : {A : Type 0} {t : Bool} (x y : A) → t ≡ true → (if t then x else y) ≡ x
if_true x y h = rw h

pub if_false : {A : Type 0} {t : Bool} (x y : A) → t ≡ false → (if t then x else y) ≡ y
if_false x y h = rw h

-- fact number k of a list of tests
pub every_at : (l : List Bool) → every l ≡ true → (k : ℕ) → get_or l k true ≡ true
unfolding every
every_at [] h k = refl
every_at (true ∷ l) h zero = refl
every_at (true ∷ l) h (suc k) = every_at l h k
every_at (false ∷ l) h k = absurd (true≢false (sym h))

pub every-none : every [] ≡ true
unfolding every
every-none = refl

pub every_more : (t : Bool) (l : List Bool) → t ≡ true → every l ≡ true → every (t ∷ l) ≡ true
unfolding every
every_more t l h k = and-true h k

pub within_low : (low high n : ℕ) → within low high n ≡ true → low ≤ n
unfolding within
within_low low high n h = leb-true low n (and_left (leb low n) (leb n high) h)

pub within_high : (low high n : ℕ) → within low high n ≡ true → n ≤ high
unfolding within
within_high low high n h = leb-true n high (and_right (leb low n) (leb n high) h)

pub within-true : (low high n : ℕ) → low ≤ n → n ≤ high → within low high n ≡ true
unfolding within
within-true low high n h k = and-true (le-leb low n h) (le-leb n high k)

-- The places of a list that hold a number, and how often it stands there.
use Prim.Native.Nat.{ℕ, zero, suc, ◌≤◌, ◌<◌}
use mathlib.Core.Path.{◌≡◌, refl, ap}
use mathlib.Core.Bool.{true}
use mathlib.Core.List.{List, [], ◌∷◌}
use native.Mathlib.Omega.{arith}
use lib.ListN.{length, get_or}
use Rattle.lists.specs.Lists.{times, distinct}
use Rattle.lists.proofs.Tests.{and-true}
use Rattle.lists.proofs.Counts.{times_self, times_other, times_cons, times-member}

pub times_at : (x : ℕ) (l : List ℕ) (i : ℕ) → i < length l → get_or l i 0 ≡ x → 1 ≤ times x l
times_at x [] i h e = absurd (omega arith)
times_at x (y ∷ l) zero h e = omega (arith, times_cons x y l, times_self x, ap (λ (v : ℕ). times x (v ∷ [])) e)
times_at x (y ∷ l) (suc i) h e = omega (arith, times_cons x y l, times_at x l i (omega arith) e)

times_none : (x : ℕ) (l : List ℕ) → ((i : ℕ) → i < length l → x ≡ get_or l i 0 → ⊥) → times x l ≡ 0
unfolding times
times_none x [] h = refl
times_none x (y ∷ l) h = omega (arith, times_cons x y l, times_other x y (h 0 (omega arith)), times_none x l (λ i q. h (suc i) (omega arith)))

-- a number that stands once has one place
pub one_place : (x : ℕ) (l : List ℕ) → times x l ≡ 1 → (i j : ℕ) → i < length l → j < length l → get_or l i 0 ≡ x → get_or l j 0 ≡ x → i ≡ j
one_place x [] t i j h g e f = absurd (omega arith)
one_place x (y ∷ l) t zero zero h g e f = refl
one_place x (y ∷ l) t zero (suc j) h g e f = absurd (omega (arith, times_cons x y l, times_at x (y ∷ []) 0 (omega arith) e, times_at x l j (omega arith) f))
one_place x (y ∷ l) t (suc i) zero h g e f = absurd (omega (arith, times_cons x y l, times_at x (y ∷ []) 0 (omega arith) f, times_at x l i (omega arith) e))
one_place x (y ∷ l) t (suc i) (suc j) h g e f =
    ap suc (one_place x l (omega (arith, times_cons x y l, times_at x l i (omega arith) e)) i j (omega arith) (omega arith) e f)

-- numbers no two places of which are alike are distinct
pub places_distinct : (l : List ℕ) → ((i j : ℕ) → i < length l → j < length l → get_or l i 0 ≡ get_or l j 0 → i ≡ j) → distinct l ≡ true
unfolding distinct
places_distinct [] h = refl
places_distinct (y ∷ l) h = and-true
    (times-member y l (times_none y l (λ i q e. omega (arith, h 0 (suc i) (omega arith) (omega arith) e))))
    (places_distinct l (λ i j q g e. omega (arith, h (suc i) (suc j) (omega arith) (omega arith) e)))

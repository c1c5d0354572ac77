-- Laws of rows, and of tests and counts below a bound.
use Prim.Native.Nat.{ℕ, zero, suc, ◌+◌, ◌-◌, ◌*◌, ◌≤◌, ◌<◌, max}
use mathlib.Core.Path.{◌≡◌, refl, sym, ap, ap₂, ◌∙◌}
use mathlib.Core.Logic.{◌⊎◌, inl, inr}
use mathlib.Core.Bool.{Bool, true, false, ◌&&◌, and_assoc, true≢false}
use mathlib.Core.Bool as bool
use mathlib.Core.List.{List, [], ◌∷◌, ◌++◌, map, append-nil, append_assoc}
use native.Mathlib.Nat.{add-zero, add-suc, zero-mul, suc-mul}
use native.Mathlib.Numerals.{add-one}
use native.Mathlib.Omega.{arith}
use native.Mathlib.Decide.{dec_lt, ℕ_discrete}
use lib.ListN.{length, take, get_or, length-append, get_or-append}
use lib.Seq.{get_or_at, take_all, take-nil, take-append-le}
use lib.Dec.{leb}
use borrow.Author.Tests.{le-leb, lt-leb}
use Rattle.std.specs.Prelude.{if◌then◌else◌}
use Rattle.lists.specs.Lists.{row, below, all_below, any_below, count_below, max_below, concat_map}
use Rattle.lists.proofs.Tests.{and_left, and_right, and-true, true_or_false, or_right, or_left, or_second}

-- ---- rows

pub length-row : {A : Type 0} (n : ℕ) (f : ℕ → A) → length (row n f) ≡ n
unfolding row
length-row zero f = refl
length-row (suc n) f = length-append (row n f) (f n ∷ []) ∙ ap (λ (m : ℕ). m + 1) (length-row n f) ∙ omega arith

pub get_d_row : {A : Type 0} (n : ℕ) (f : ℕ → A) (j : ℕ) (x : A) → j < n → get_or (row n f) j x ≡ f j
unfolding row
get_d_row zero f j x h = absurd (omega arith)
get_d_row (suc n) f j x h = go (λ q. get_d_row n f j x q) (ℕ_discrete j n)
  where
    go : (j < n → get_or (row n f) j x ≡ f j) → Dec (j ≡ n) → get_or (row n f ++ (f n ∷ [])) j x ≡ f j
    go r (yes e) = get_or_at (row n f) (f n) [] x j (length-row n f ∙ sym e) ∙ ap f (sym e)
    go r (no ne) = let q : j < n = omega arith in get_or-append (row n f) (f n ∷ []) x j (rw (length-row n f) q) ∙ r q

pub take_row : {A : Type 0} (n : ℕ) (f : ℕ → A) (m : ℕ) → m ≤ n → take m (row n f) ≡ row m f
unfolding row
take_row zero f m h = take-nil m ∙ ap (λ (k : ℕ). row k f) (let e : 0 ≡ m = omega arith in e)
take_row (suc n) f m h = go (ℕ_discrete m (suc n)) (take_row n f m)
  where
    go : Dec (m ≡ suc n) → (m ≤ n → take m (row n f) ≡ row m f) → take m (row n f ++ (f n ∷ [])) ≡ row m f
    go (yes e) r = take_all m (row n f ++ (f n ∷ [])) (omega (arith, length-row (suc n) f)) ∙ sym (ap (λ (k : ℕ). row k f) e)
    go (no ne) r = take-append-le m (row n f) (f n ∷ []) (omega (arith, length-row n f)) ∙ r (omega arith)

pub below_more : (n : ℕ) → below (n + 1) ≡ below n ++ (n ∷ [])
unfolding below row
below_more n = rw (add-one n)

pub map_append : {A B : Type 0} (f : A → B) (xs ys : List A) → map f (xs ++ ys) ≡ map f xs ++ map f ys
map_append f [] ys = refl
map_append f (x ∷ xs) ys = ap (λ l. f x ∷ l) (map_append f xs ys)

pub concat_more : {A B : Type 0} (f : A → List B) (l : List A) (x : A) → concat_map f (l ++ (x ∷ [])) ≡ concat_map f l ++ f x
unfolding concat_map
concat_more f [] x = append-nil (f x)
concat_more f (y ∷ l) x = rw (concat_more f l x) (sym (append_assoc (f y) (concat_map f l) (f x)))

-- ---- tests below a bound

pub all-below : (n : ℕ) (t : ℕ → Bool) → all_below n t ≡ true → (k : ℕ) → k < n → t k ≡ true
unfolding all_below
all-below zero t h k hk = absurd (omega arith)
all-below (suc n) t h k hk = go (λ q. all-below n t (and_left (all_below n t) (t n) h) k q) (ℕ_discrete k n)
  where
    go : (k < n → t k ≡ true) → Dec (k ≡ n) → t k ≡ true
    go r (yes e) = rw e (and_right (all_below n t) (t n) h)
    go r (no ne) = r (omega arith)

pub any_below_lem : (n : ℕ) (t : ℕ → Bool) → any_below n t ≡ true → (i : ℕ) × (i < n) × (t i ≡ true)
unfolding any_below
any_below_lem zero t h = absurd (true≢false (sym h))
any_below_lem (suc n) t h = go (true_or_false (any_below n t)) (λ q. any_below_lem n t q)
  where
    go : (any_below n t ≡ true) ⊎ (any_below n t ≡ false) → (any_below n t ≡ true → (i : ℕ) × (i < n) × (t i ≡ true)) → (i : ℕ) × (i < suc n) × (t i ≡ true)
    go (inl q) more = let m = more q in (m.0, omega (arith, m.1), m.2)
    go (inr q) more = (n, omega arith, or_right (any_below n t) (t n) h q)

pub below-any : (n : ℕ) (t : ℕ → Bool) (i : ℕ) → i < n → t i ≡ true → any_below n t ≡ true
unfolding any_below
below-any zero t i h e = absurd (omega arith)
below-any (suc n) t i h e = go (ℕ_discrete i n) (λ q. below-any n t i q e)
  where
    go : Dec (i ≡ n) → (i < n → any_below n t ≡ true) → any_below (suc n) t ≡ true
    go (yes q) more = or_second (any_below n t) (t n) (ap t (sym q) ∙ e)
    go (no q) more = or_left (any_below n t) (t n) (more (omega arith))

pub below_all : (n : ℕ) (t : ℕ → Bool) → ((k : ℕ) → k < n → t k ≡ true) → all_below n t ≡ true
unfolding all_below
below_all zero t h = refl
below_all (suc n) t h = and-true (below_all n t (λ k hk. h k (omega arith))) (h n (omega arith))

-- tests that agree below a bound
pub below_alike : (n : ℕ) (s t : ℕ → Bool) → ((k : ℕ) → k < n → s k ≡ t k) → all_below n s ≡ all_below n t
unfolding all_below
below_alike zero s t h = refl
below_alike (suc n) s t h = ap₂ (λ (a b : Bool). a && b) (below_alike n s t (λ k g. h k (omega arith))) (h n (omega arith))

-- a bound in two parts, and one that is a number of rows
pub below_append : (m n : ℕ) (t : ℕ → Bool) → all_below (m + n) t ≡ (all_below m t && all_below n (λ k. t (m + k)))
unfolding all_below
below_append m zero t = rw add-zero (sym (bool.and-true (all_below m t)))
below_append m (suc n) t = rw (add-suc, below_append m n t) (and_assoc (all_below m t) (all_below n (λ k. t (m + k))) (t (m + n)))

pub below_rows : (rows width : ℕ) (t : ℕ → Bool) → all_below (rows * width) t ≡ all_below rows (λ j. all_below width (λ k. t (j * width + k)))
unfolding all_below
below_rows zero width t = rw zero-mul
below_rows (suc rows) width t = rw suc-mul (below_append (rows * width) width t ∙ rw (below_rows rows width t))

-- ---- counts below a bound

pub count_le : (n : ℕ) (t : ℕ → Bool) → count_below n t ≤ n
unfolding count_below
count_le zero t = omega arith
count_le (suc n) t = go (t n) (count_le n t)
  where
    go : (s : Bool) → count_below n t ≤ n → (if s then count_below n t + 1 else count_below n t) ≤ suc n
    go true h = omega arith
    go false h = omega arith

pub count_alike : (n : ℕ) (s t : ℕ → Bool) → ((k : ℕ) → k < n → s k ≡ t k) → count_below n s ≡ count_below n t
unfolding count_below
count_alike zero s t h = refl
count_alike (suc n) s t h = rw (h n (omega arith), count_alike n s t (λ k hk. h k (omega arith)))

-- a test that holds from m on
pub count_from : (m n : ℕ) (t : ℕ → Bool) → m ≤ n → ((k : ℕ) → k < m → t k ≡ false) → ((k : ℕ) → m ≤ k → k < n → t k ≡ true) → count_below n t ≡ n - m
unfolding count_below
count_from m zero t h none all = omega arith
count_from m (suc n) t h none all = go (dec_lt n m) (λ j hj. count_from j n t hj)
  where
    go : Dec (n < m) → ((j : ℕ) → j ≤ n → ((k : ℕ) → k < j → t k ≡ false) → ((k : ℕ) → j ≤ k → k < n → t k ≡ true) → count_below n t ≡ n - j)
        → (if t n then count_below n t + 1 else count_below n t) ≡ suc n - m
    go (yes q) r = rw (none n q, r n (omega arith) (λ k hk. none k (omega arith)) (λ k lo hi. absurd (omega arith))) (omega arith)
    go (no q) r = rw (all n (omega arith) (omega arith), r m (omega arith) none (λ k lo hi. all k lo (omega arith))) (omega arith)

pub count_all : (n : ℕ) (t : ℕ → Bool) → ((k : ℕ) → k < n → t k ≡ true) → count_below n t ≡ n
count_all n t h = count_from 0 n t (omega arith) (λ k hk. absurd (omega arith)) (λ k lo hi. h k hi) ∙ omega arith

pub count_none : (n : ℕ) (t : ℕ → Bool) → ((k : ℕ) → k < n → t k ≡ false) → count_below n t ≡ 0
count_none n t h = count_from n n t (omega arith) h (λ k lo hi. absurd (omega arith)) ∙ omega arith

-- a count that is the whole bound leaves none out
pub count_full : (n : ℕ) (t : ℕ → Bool) → count_below n t ≡ n → (k : ℕ) → k < n → t k ≡ true
unfolding count_below
count_full zero t h k hk = absurd (omega arith)
count_full (suc n) t h k hk = go (t n) refl h (λ e q. count_full n t e k q) (ℕ_discrete k n)
  where
    go : (s : Bool) → t n ≡ s → (if s then count_below n t + 1 else count_below n t) ≡ suc n → (count_below n t ≡ n → k < n → t k ≡ true) → Dec (k ≡ n) → t k ≡ true
    go true e h' r (yes q) = rw q e
    go true e h' r (no q) = r (omega arith) (omega arith)
    go false e h' r q = absurd (omega (arith, count_le n t))

-- a test that holds from some number on holds of the last ones
pub count_last : (n : ℕ) (t : ℕ → Bool) → ((k j : ℕ) → k ≤ j → j < n → t k ≡ true → t j ≡ true) → (k : ℕ) → k < n → t k ≡ leb (n - count_below n t) k
unfolding count_below
count_last zero t up k hk = absurd (omega arith)
count_last (suc n) t up k hk = go (t n) refl (count_last n t (λ i j hi hj. up i j hi (omega arith)) k) (ℕ_discrete k n)
  where
    go : (s : Bool) → t n ≡ s → (k < n → t k ≡ leb (n - count_below n t) k) → Dec (k ≡ n) → t k ≡ leb (suc n - (if s then count_below n t + 1 else count_below n t)) k
    go true e r (yes q) = ap t q ∙ e ∙ sym (le-leb (suc n - (count_below n t + 1)) k (omega arith))
    go true e r (no q) = r (omega arith) ∙ ap (λ (m : ℕ). leb m k) (omega arith)
    go false e r q = none k hk ∙ sym (lt-leb (suc n - count_below n t) k (omega (arith, count_none n t (λ j hj. none j (omega arith)))))
      where
        none : (j : ℕ) → j < suc n → t j ≡ false
        none j hj = pick (t j) refl
          where
            pick : (s : Bool) → t j ≡ s → t j ≡ false
            pick true h = absurd (true≢false (sym (up j n (omega arith) (omega arith) h) ∙ e))
            pick false h = h

pub max-below : (n : ℕ) (f : ℕ → ℕ) (k : ℕ) → k < n → f k ≤ max_below n f
unfolding max_below
max-below zero f k h = absurd (omega arith)
max-below (suc n) f k h = go (λ q. max-below n f k q) (ℕ_discrete k n)
  where
    go : (k < n → f k ≤ max_below n f) → Dec (k ≡ n) → f k ≤ max (max_below n f) (f n)
    go r (yes e) = rw e (omega arith)
    go r (no ne) = let q = r (omega arith) in omega arith

pub max_least : (n : ℕ) (f : ℕ → ℕ) (m : ℕ) → ((k : ℕ) → k < n → f k ≤ m) → max_below n f ≤ m
unfolding max_below
max_least zero f m h = omega arith
max_least (suc n) f m h = omega (arith, max_least n f m (λ k hk. h k (omega arith)), h n (omega arith))

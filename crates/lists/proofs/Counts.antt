-- How often a number stands in a list: appended and shortened lists, tests of all members, distinct lists, and lengths from counts.
use Prim.Native.Nat.{ℕ, zero, suc, ◌+◌, ◌*◌, ◌≤◌, ◌<◌}
use mathlib.Core.Path.{◌≡◌, refl, sym, ap, ap₂, ◌∙◌}
use mathlib.Core.Logic.{◌⊎◌, inl, inr, ◌≢◌}
use mathlib.Core.Bool.{Bool, true, false, not, ◌||◌, true≢false}
use mathlib.Core.List.Memᴰ
use mathlib.Core.List.{List, [], ◌∷◌, ◌++◌, Memᴰ}
use native.Mathlib.Omega.{arith}
use native.Mathlib.Decide.{ℕ_discrete, dec_lt}
use lib.ListN.{length, drop}
use lib.Dec.{ltb, eqb}
use borrow.Author.Tests.{ne_eqb, eq-eqb, lt-ltb, le-ltb}
use Rattle.std.specs.Prelude.{if◌then◌else◌}
use Rattle.lists.specs.Lists.{all, any, empty, head, member, times, distinct}
use Rattle.lists.proofs.Tests.{and_left, and_right, and-true}

-- ---- one element

pub times_self : (x : ℕ) → times x (x ∷ []) ≡ 1
unfolding times
times_self x = rw (eq-eqb x x refl)

pub times_other : (x y : ℕ) → x ≢ y → times x (y ∷ []) ≡ 0
unfolding times
times_other x y ne = rw (ne_eqb x y ne)

pub times_one : (x y : ℕ) → times x (y ∷ []) ≤ 1
unfolding times
times_one x y = go (eqb x y)
  where
    go : (t : Bool) → (if t then 0 + 1 else 0) ≤ 1
    go true = omega arith
    go false = omega arith

pub times_cons : (x y : ℕ) (l : List ℕ) → times x (y ∷ l) ≡ times x (y ∷ []) + times x l
unfolding times
times_cons x y l = go (eqb x y)
  where
    go : (t : Bool) → (if t then times x l + 1 else times x l) ≡ (if t then 0 + 1 else 0) + times x l
    go true = omega arith
    go false = omega arith

pub times_append : (x : ℕ) (l m : List ℕ) → times x (l ++ m) ≡ times x l + times x m
unfolding times
times_append x [] m = omega arith
times_append x (y ∷ l) m = omega (arith, times_cons x y (l ++ m), times_cons x y l, times_append x l m)

-- a list that is not empty is its head and the rest
pub head-rest : (l : List ℕ) → empty l ≡ false → l ≡ head l ∷ drop 1 l
unfolding empty head
head-rest [] h = absurd (true≢false h)
head-rest (x ∷ l) h = refl

pub times-rest : (x : ℕ) (l : List ℕ) → empty l ≡ false → times x l ≡ times x (head l ∷ []) + times x (drop 1 l)
times-rest x l h = ap (times x) (head-rest l h) ∙ times_cons x (head l) (drop 1 l)

-- the first of a list stands in it
pub head_in : (l : List ℕ) → empty l ≡ false → 1 ≤ times (head l) l
head_in l h = omega (arith, times-rest (head l) l h, times_self (head l))

pub times-only : (x y : ℕ) → 1 ≤ times x (y ∷ []) → x ≡ y
times-only x y t = go (ℕ_discrete x y)
  where
    go : Dec (x ≡ y) → x ≡ y
    go (yes e) = e
    go (no ne) = absurd (omega (arith, times_other x y ne))

pub empty-length : (l : List ℕ) → empty l ≡ true → length l ≡ 0
unfolding empty
empty-length [] e = refl
empty-length (x ∷ l) e = absurd (true≢false (sym e))

pub empty-times : (l : List ℕ) → empty l ≡ true → (x : ℕ) → times x l ≡ 0
unfolding empty times
empty-times [] e x = refl
empty-times (y ∷ l) e x = absurd (true≢false (sym e))

pub grown_some : (l : List ℕ) (x : ℕ) → empty (l ++ (x ∷ [])) ≡ false
unfolding empty
grown_some [] x = refl
grown_some (y ∷ l) x = refl

pub mem_times : (x : ℕ) (l : List ℕ) → Memᴰ x l → 1 ≤ times x l
mem_times x [] m = absurd (Memᴰ.not-nil m)
mem_times x (y ∷ l) m = go (Memᴰ.cases_cons m) (λ t. mem_times x l t)
  where
    go : (x ≡ y) ⊎ Memᴰ x l → (Memᴰ x l → 1 ≤ times x l) → 1 ≤ times x (y ∷ l)
    go (inl e) r = omega (arith, times_cons x y l, ap (λ (v : ℕ). times x (v ∷ [])) e, times_self x)
    go (inr t) r = omega (arith, times_cons x y l, r t)

-- ---- tests of all members

pub all_in : (t : ℕ → Bool) (l : List ℕ) → all t l ≡ true → (x : ℕ) → 1 ≤ times x l → t x ≡ true
unfolding all times
all_in t [] h x hx = absurd (omega arith)
all_in t (y ∷ l) h x hx = go (ℕ_discrete x y) (λ q. all_in t l (and_right (t y) (all t l) h) x q)
  where
    go : Dec (x ≡ y) → (1 ≤ times x l → t x ≡ true) → t x ≡ true
    go (yes e) r = rw e (and_left (t y) (all t l) h)
    go (no ne) r = r (omega (arith, times_cons x y l, times_other x y ne))

pub in_all : (t : ℕ → Bool) (l : List ℕ) → ((x : ℕ) → 1 ≤ times x l → t x ≡ true) → all t l ≡ true
unfolding all
in_all t [] h = refl
in_all t (y ∷ l) h = and-true (h y (omega (arith, times_cons y y l, times_self y))) (in_all t l (λ x q. h x (omega (arith, times_cons x y l))))

-- ---- distinct lists

pub member-times : (x : ℕ) (l : List ℕ) → not (member x l) ≡ true → times x l ≡ 0
unfolding member any times
member-times x [] h = refl
member-times x (y ∷ l) h = go (eqb x y) h (λ q. member-times x l q)
  where
    go : (t : Bool) → not (t || any (eqb x) l) ≡ true → (not (any (eqb x) l) ≡ true → times x l ≡ 0) → (if t then times x l + 1 else times x l) ≡ 0
    go true h r = absurd (true≢false (sym h))
    go false h r = r h

pub times-member : (x : ℕ) (l : List ℕ) → times x l ≡ 0 → not (member x l) ≡ true
unfolding member any times
times-member x [] h = refl
times-member x (y ∷ l) h = go (eqb x y) h (λ q. times-member x l q)
  where
    go : (t : Bool) → (if t then times x l + 1 else times x l) ≡ 0 → (times x l ≡ 0 → not (any (eqb x) l) ≡ true) → not (t || any (eqb x) l) ≡ true
    go true h r = absurd (omega arith)
    go false h r = r h

pub distinct-times : (l : List ℕ) → distinct l ≡ true → (x : ℕ) → times x l ≤ 1
unfolding distinct times
distinct-times [] h x = omega arith
distinct-times (y ∷ l) h x = go (ℕ_discrete x y) (distinct-times l (and_right (not (member y l)) (distinct l) h) x)
  where
    none : times y l ≡ 0
    none = member-times y l (and_left (not (member y l)) (distinct l) h)

    go : Dec (x ≡ y) → times x l ≤ 1 → times x (y ∷ l) ≤ 1
    go (yes e) r = omega (arith, times_cons x y l, times_one x y, ap (λ (v : ℕ). times v l) e, none)
    go (no ne) r = omega (arith, times_cons x y l, times_other x y ne)

pub times-distinct : (l : List ℕ) → ((x : ℕ) → times x l ≤ 1) → distinct l ≡ true
unfolding distinct
times-distinct [] h = refl
times-distinct (y ∷ l) h =
    and-true (times-member y l (omega (arith, h y, times_cons y y l, times_self y))) (times-distinct l (λ x. omega (arith, h x, times_cons x y l)))

-- ---- lengths

sum : ℕ → (ℕ → ℕ) → ℕ
sum zero f = 0
sum (suc n) f = sum n f + f n

sum_same : (n : ℕ) (f g : ℕ → ℕ) → ((x : ℕ) → x < n → f x ≡ g x) → sum n f ≡ sum n g
unfolding sum
sum_same zero f g h = refl
sum_same (suc n) f g h = ap₂ (λ (x y : ℕ). x + y) (sum_same n f g (λ x hx. h x (omega arith))) (h n (omega arith))

sum_const : (n k : ℕ) → sum n (λ x. k) ≡ n * k
unfolding sum
sum_const zero k = omega arith
sum_const (suc n) k = omega (arith, sum_const n k)

-- one x more
sum_one : (n x : ℕ) (l : List ℕ) → x < n → sum n (λ c. times c (x ∷ l)) ≡ sum n (λ c. times c l) + 1
unfolding sum
sum_one zero x l h = absurd (omega arith)
sum_one (suc n) x l h = go (ℕ_discrete n x) (λ q. sum_one n x l q)
  where
    go : Dec (n ≡ x) → (x < n → sum n (λ c. times c (x ∷ l)) ≡ sum n (λ c. times c l) + 1)
        → sum n (λ c. times c (x ∷ l)) + times n (x ∷ l) ≡ sum n (λ c. times c l) + times n l + 1
    go (yes e) r =
        let b : sum n (λ c. times c (x ∷ l)) ≡ sum n (λ c. times c l) =
        sum_same n _ _ (λ c hc. times_cons c x l ∙ ap (λ (k : ℕ). k + times c l) (times_other c x (λ q. omega arith)) ∙ omega arith) in
        omega (arith, times_cons n x l, ap (λ (k : ℕ). times k (x ∷ [])) e, times_self x)
    go (no ne) r = omega (arith, r (omega arith), times_cons n x l, times_other n x ne)

length_sum : (n : ℕ) (l : List ℕ) → ((x : ℕ) → 1 ≤ times x l → x < n) → sum n (λ c. times c l) ≡ length l
unfolding times
length_sum n [] h = sum_const n 0 ∙ omega arith
length_sum n (x ∷ l) h =
    sum_one n x l (h x (omega (arith, times_cons x x l, times_self x)))
    ∙ omega (arith, length_sum n l (λ y t. h y (omega (arith, times_cons y x l))))

-- where each number below n stands once in l and no other does
pub length_once : (n : ℕ) (l : List ℕ) → ((x : ℕ) → times x l ≡ (if ltb x n then 1 else 0)) → length l ≡ n
length_once n l h =
    sym (length_sum n l (λ x t. below x t (dec_lt x n)))
    ∙ (sum_same n (λ c. times c l) (λ c. 1) (λ c hc. h c ∙ rw (lt-ltb c n hc)) ∙ (sum_const n 1 ∙ omega arith))
  where
    below : (x : ℕ) → 1 ≤ times x l → Dec (x < n) → x < n
    below x t (yes u) = u
    below x t (no u) = let e : times x l ≡ 0 = h x ∙ rw (le-ltb x n (omega arith)) in absurd (omega arith)

sum_most : (n k : ℕ) (f : ℕ → ℕ) → ((x : ℕ) → f x ≤ k) → sum n f ≤ n * k
unfolding sum
sum_most zero k f h = omega arith
sum_most (suc n) k f h = omega (arith, sum_most n k f h, h n)

-- where no number stands twice in l, and none that is not below n
pub length_few : (n : ℕ) (l : List ℕ) → ((x : ℕ) → times x l ≤ 1) → ((x : ℕ) → 1 ≤ times x l → x < n) → length l ≤ n
length_few n l once inside = omega (arith, length_sum n l inside, sum_most n 1 (λ c. times c l) once)

-- Selections and orders: how often a number stands in a selected or a sorted list, lists in order, and the newest of a list.
use Prim.Native.Nat.{ℕ, zero, suc, ◌+◌, ◌≤◌, ◌<◌}
use mathlib.Core.Path.{◌≡◌, refl, sym, ap, ◌∙◌}
use mathlib.Core.Logic.{◌⊎◌, inl, inr, ◌≢◌}
use mathlib.Core.Bool.{Bool, true, false, ◌||◌, true≢false}
use mathlib.Core.List.{List, [], ◌∷◌, ◌++◌, map}
use native.Mathlib.Omega.{arith}
use native.Mathlib.Decide.{ℕ_discrete, dec_lt}
use lib.ListN.{length}
use lib.Dec.{ltb, eqb}
use borrow.Author.Tests.{ltb-true, ltb-false, lt-ltb, le-ltb, eq-eqb, ne_eqb}
use Rattle.std.specs.Prelude.{if◌then◌else◌}
use Rattle.lists.specs.Lists.{row, any, keep, below, member, times, distinct, insert_by, sort_into, sort_by}
use Rattle.lists.proofs.Tests.{and-true, or_cases}
use Rattle.lists.proofs.Counts.{times_self, times_other, times_cons, times_append, times-member}

-- ---- selections

pub times-keep : (t : ℕ → Bool) (x : ℕ) (l : List ℕ) → times x (keep t l) ≡ (if t x then times x l else 0)
unfolding keep times
times-keep t x [] = none (t x)
  where
    none : (s : Bool) → times x [] ≡ (if s then times x [] else 0)
    none true = refl
    none false = refl
times-keep t x (y ∷ l) = go (ℕ_discrete x y) (t y) refl (times-keep t x l)
  where
    go : Dec (x ≡ y) → (s : Bool) → t y ≡ s → times x (keep t l) ≡ (if t x then times x l else 0)
        → times x (if s then y ∷ keep t l else keep t l) ≡ (if t x then times x (y ∷ l) else 0)
    go (yes e) true q r = rw (ap t e ∙ q, eq-eqb x y e) (ap (λ (n : ℕ). n + 1) (rw (ap t e ∙ q) at r))
    go (yes e) false q r = rw (ap t e ∙ q) (rw (ap t e ∙ q) at r)
    go (no ne) true q r = rw (ne_eqb x y ne) r
    go (no ne) false q r = rw (ne_eqb x y ne) r

pub times_below : (x n : ℕ) → times x (below n) ≡ (if ltb x n then 1 else 0)
unfolding below row times
times_below x zero = rw (le-ltb x 0 (omega arith))
times_below x (suc n) = times_append x (below n) (n ∷ []) ∙ go (ℕ_discrete x n) (dec_lt x n) (times_below x n)
  where
    go : Dec (x ≡ n) → Dec (x < n) → times x (below n) ≡ (if ltb x n then 1 else 0) → times x (below n) + times x (n ∷ []) ≡ (if ltb x (suc n) then 1 else 0)
    go (yes e) u r = rw (lt-ltb x (suc n) (omega arith)) (omega (arith, rw (le-ltb x n (omega arith)) at r, ap (λ (y : ℕ). times x (y ∷ [])) (sym e), times_self x))
    go (no ne) (yes u) r = rw (lt-ltb x (suc n) (omega arith)) (omega (arith, rw (lt-ltb x n u) at r, times_other x n ne))
    go (no ne) (no u) r = rw (le-ltb x (suc n) (omega arith)) (omega (arith, rw (le-ltb x n (omega arith)) at r, times_other x n ne))

-- a member of a selection passes the test and is in the list
pub kept_in : (t : ℕ → Bool) (x : ℕ) (l : List ℕ) → 1 ≤ times x (keep t l) → (t x ≡ true) × (1 ≤ times x l)
kept_in t x l h = go (t x) refl
  where
    go : (s : Bool) → t x ≡ s → (t x ≡ true) × (1 ≤ times x l)
    go true e = (e, omega (arith, rw e at (times-keep t x l)))
    go false e = absurd (omega (arith, rw e at (times-keep t x l)))

pub in_kept : (t : ℕ → Bool) (x : ℕ) (l : List ℕ) → t x ≡ true → times x (keep t l) ≡ times x l
in_kept t x l e = rw e at (times-keep t x l)

-- the numbers below n that pass a test
pub kept_below : (t : ℕ → Bool) (x n : ℕ) → 1 ≤ times x (keep t (below n)) → (t x ≡ true) × (x < n)
kept_below t x n h = ((kept_in t x (below n) h).0, go (dec_lt x n))
  where
    go : Dec (x < n) → x < n
    go (yes u) = u
    go (no u) = absurd (omega (arith, (kept_in t x (below n) h).1, rw (le-ltb x n (omega arith)) at (times_below x n)))

pub below_kept : (t : ℕ → Bool) (x n : ℕ) → x < n → t x ≡ true → times x (keep t (below n)) ≡ 1
below_kept t x n h e = in_kept t x (below n) e ∙ rw (lt-ltb x n h) at (times_below x n)

pub kept_once : (t : ℕ → Bool) (x n : ℕ) → times x (keep t (below n)) ≤ 1
kept_once t x n = go (dec_lt 0 (times x (keep t (below n))))
  where
    go : Dec (0 < times x (keep t (below n))) → times x (keep t (below n)) ≤ 1
    go (yes h) = let k = kept_below t x n h in omega (arith, below_kept t x n k.1 k.0)
    go (no h) = omega arith

pub length-keep : (s t : ℕ → Bool) (l : List ℕ) → length (keep s (keep t l)) ≤ length (keep s l)
unfolding keep
length-keep s t [] = omega arith
length-keep s t (x ∷ l) = go (t x) (s x) refl (length-keep s t l)
  where
    go : (u v : Bool) → s x ≡ v → length (keep s (keep t l)) ≤ length (keep s l)
        → length (keep s (if u then x ∷ keep t l else keep t l)) ≤ length (if v then x ∷ keep s l else keep s l)
    go true true e r = rw e (omega arith)
    go true false e r = rw e r
    go false true e r = omega arith
    go false false e r = r

pub member_in : (x : ℕ) (l : List ℕ) → member x l ≡ true → 1 ≤ times x l
unfolding member any times
member_in x [] h = absurd (true≢false (sym h))
member_in x (y ∷ l) h = go (eqb x y) h (λ q. member_in x l q)
  where
    go : (s : Bool) → s || any (eqb x) l ≡ true → (member x l ≡ true → 1 ≤ times x l) → 1 ≤ (if s then times x l + 1 else times x l)
    go true q r = omega arith
    go false q r = r q

pub any_in : (t : ℕ → Bool) (l : List ℕ) → any t l ≡ true → (x : ℕ) × (1 ≤ times x l) × (t x ≡ true)
unfolding any
any_in t [] h = absurd (true≢false (sym h))
any_in t (y ∷ l) h = go (or_cases (t y) (any t l) h) (λ q. any_in t l q)
  where
    go : (t y ≡ true) ⊎ (any t l ≡ true) → (any t l ≡ true → (x : ℕ) × (1 ≤ times x l) × (t x ≡ true)) → (x : ℕ) × (1 ≤ times x (y ∷ l)) × (t x ≡ true)
    go (inl q) r = (y, omega (arith, times_cons y y l, times_self y), q)
    go (inr q) r = let w = r q in (w.0, omega (arith, w.1, times_cons w.0 y l), w.2)

pub in_any : (t : ℕ → Bool) (l : List ℕ) (x : ℕ) → 1 ≤ times x l → t x ≡ true → any t l ≡ true
unfolding any times
in_any t [] x h e = absurd (omega arith)
in_any t (y ∷ l) x h e = go (ℕ_discrete x y) (t y) refl (λ q. in_any t l x q e)
  where
    go : Dec (x ≡ y) → (s : Bool) → t y ≡ s → (1 ≤ times x l → any t l ≡ true) → s || any t l ≡ true
    go u true q r = refl
    go (yes v) false q r = absurd (true≢false (sym e ∙ ap t v ∙ q))
    go (no v) false q r = r (omega (arith, times_cons x y l, times_other x y v))

-- ---- distinct values

pub map_in : (f : ℕ → ℕ) (l : List ℕ) (v : ℕ) → 1 ≤ times v (map f l) → (x : ℕ) × (1 ≤ times x l) × (f x ≡ v)
unfolding times
map_in f [] v h = absurd (omega arith)
map_in f (y ∷ l) v h = go (ℕ_discrete v (f y)) (λ q. map_in f l v q)
  where
    go : Dec (v ≡ f y) → (1 ≤ times v (map f l) → (x : ℕ) × (1 ≤ times x l) × (f x ≡ v)) → (x : ℕ) × (1 ≤ times x (y ∷ l)) × (f x ≡ v)
    go (yes e) r = (y, omega (arith, times_cons y y l, times_self y), sym e)
    go (no ne) r =
        let w = r (omega (arith, times_cons v (f y) (map f l), times_other v (f y) ne)) in
        (w.0, omega (arith, w.1, times_cons w.0 y l), w.2)

pub distinct-map : (f : ℕ → ℕ) (l : List ℕ) → ((x : ℕ) → times x l ≤ 1) → ((x y : ℕ) → 1 ≤ times x l → 1 ≤ times y l → f x ≡ f y → x ≡ y) → distinct (map f l) ≡ true
unfolding distinct
distinct-map f [] once inj = refl
distinct-map f (x ∷ l) once inj = and-true (times-member (f x) (map f l) (go (dec_lt 0 (times (f x) (map f l)))))
    (distinct-map f l (λ y. omega (arith, once y, times_cons y x l)) (λ u v p q. inj u v (omega (arith, times_cons u x l)) (omega (arith, times_cons v x l))))
  where
    go : Dec (0 < times (f x) (map f l)) → times (f x) (map f l) ≡ 0
    go (no u) = omega arith
    go (yes u) =
        let w = map_in f l (f x) u in
        let first : 1 ≤ times x (x ∷ l) = omega (arith, times_cons x x l, times_self x) in
        let later : 1 ≤ times w.0 (x ∷ l) = omega (arith, w.1, times_cons w.0 x l) in
        let e : w.0 ≡ x = inj w.0 x later first w.2 in
        absurd (omega (arith, once x, times_cons x x l, times_self x, w.1, ap (λ (v : ℕ). times v l) e))

-- ---- lists in order

-- the relation holds of each element and every later one
abbrev pub Pairwise : (ℕ → ℕ → Type 0) → List ℕ → Type 0
Pairwise R [] = Unit {0}
Pairwise R (x ∷ l) = ((y : ℕ) → 1 ≤ times y l → R x y) × Pairwise R l

module _ (R : ℕ → ℕ → Type 0) where
  pub pairwise_append : (l m : List ℕ) → Pairwise R l → Pairwise R m → ((x y : ℕ) → 1 ≤ times x l → 1 ≤ times y m → R x y) → Pairwise R (l ++ m)
  pairwise_append [] m p q h = q
  pairwise_append (x ∷ l) m p q h =
      ((λ y t. go y t (dec_lt 0 (times y l))), pairwise_append l m p.1 q (λ u v t. h u v (omega (arith, times_cons u x l, t))))
    where
      go : (y : ℕ) → 1 ≤ times y (l ++ m) → Dec (0 < times y l) → R x y
      go y t (yes u) = p.0 y u
      go y t (no u) = h x y (omega (arith, times_cons x x l, times_self x)) (omega (arith, times_append y l m))

  -- where a list is cut in two
  pub pairwise_cut : (l m : List ℕ) → Pairwise R (l ++ m) → (x y : ℕ) → 1 ≤ times x l → 1 ≤ times y m → R x y
  unfolding times
  pairwise_cut [] m p x y hx hy = absurd (omega arith)
  pairwise_cut (u ∷ l) m p x y hx hy = go (ℕ_discrete x u) (λ t. pairwise_cut l m p.1 x y t hy)
    where
      go : Dec (x ≡ u) → (1 ≤ times x l → R x y) → R x y
      go (yes e) r = rw e (p.0 y (omega (arith, times_append y l m)))
      go (no ne) r = r (omega (arith, times_cons x u l, times_other x u ne))

  pub pairwise_any : (l : List ℕ) → ((x y : ℕ) → 1 ≤ times x l → 1 ≤ times y l → R x y) → Pairwise R l
  pairwise_any [] h = tt
  pairwise_any (x ∷ l) h = (
    (λ y t. h x y (omega (arith, times_cons x x l, times_self x)) (omega (arith, times_cons y x l))),
    pairwise_any l (λ u v p q. h u v (omega (arith, times_cons u x l)) (omega (arith, times_cons v x l))),
  )

pub pairwise_map : (R S : ℕ → ℕ → Type 0) (l : List ℕ) → ((x y : ℕ) → 1 ≤ times x l → 1 ≤ times y l → R x y → S x y) → Pairwise R l → Pairwise S l
pairwise_map R S [] h p = tt
pairwise_map R S (x ∷ l) h p = (
  (λ y t. h x y (omega (arith, times_cons x x l, times_self x)) (omega (arith, times_cons y x l)) (p.0 y t)),
  pairwise_map R S l (λ u v s t. h u v (omega (arith, times_cons u x l)) (omega (arith, times_cons v x l))) p.1,
)

-- ---- by a key

module _ (key : ℕ → ℕ) where
  times_insert : (x y : ℕ) (l : List ℕ) → times x (insert_by key y l) ≡ times x (y ∷ l)
  unfolding insert_by
  times_insert x y [] = refl
  times_insert x y (v ∷ l) = go (ltb (key y) (key v)) (times_insert x y l)
    where
      go : (s : Bool) → times x (insert_by key y l) ≡ times x (y ∷ l) → times x (if s then y ∷ v ∷ l else v ∷ insert_by key y l) ≡ times x (y ∷ v ∷ l)
      go true r = refl
      go false r = omega (arith, r, times_cons x v (insert_by key y l), times_cons x y l, times_cons x y (v ∷ l), times_cons x v l)

  times_into : (x : ℕ) (sorted l : List ℕ) → times x (sort_into key sorted l) ≡ times x sorted + times x l
  unfolding sort_into times
  times_into x sorted [] = omega arith
  times_into x sorted (y ∷ l) = times_into x (insert_by key y sorted) l ∙ omega (arith, times_insert x y sorted, times_cons x y sorted, times_cons x y l)

  pub times_sort : (x : ℕ) (l : List ℕ) → times x (sort_by key l) ≡ times x l
  unfolding sort_by times
  times_sort x l = times_into x [] l ∙ omega arith

  length_insert : (y : ℕ) (l : List ℕ) → length (insert_by key y l) ≡ suc (length l)
  unfolding insert_by
  length_insert y [] = refl
  length_insert y (v ∷ l) = go (ltb (key y) (key v)) (length_insert y l)
    where
      go : (s : Bool) → length (insert_by key y l) ≡ suc (length l) → length (if s then y ∷ v ∷ l else v ∷ insert_by key y l) ≡ suc (suc (length l))
      go true r = refl
      go false r = ap suc r

  length_into : (sorted l : List ℕ) → length (sort_into key sorted l) ≡ length sorted + length l
  unfolding sort_into
  length_into sorted [] = omega arith
  length_into sorted (y ∷ l) = length_into (insert_by key y sorted) l ∙ omega (arith, length_insert y sorted)

  pub length_sort : (l : List ℕ) → length (sort_by key l) ≡ length l
  unfolding sort_by
  length_sort l = length_into [] l ∙ omega arith

  abbrev pub Rising : List ℕ → Type 0
  Rising l = Pairwise (λ x y. key x ≤ key y) l

  pub rising_insert : (y : ℕ) (l : List ℕ) → Rising l → Rising (insert_by key y l)
  unfolding insert_by times
  rising_insert y [] p = ((λ v t. absurd (omega arith)), tt)
  rising_insert y (v ∷ l) p = go (ltb (key y) (key v)) refl (rising_insert y l p.1)
    where
      after : key y < key v → (u : ℕ) → 1 ≤ times u (v ∷ l) → Dec (u ≡ v) → key y ≤ key u
      after h u t (yes e) = omega (arith, ap key e)
      after h u t (no ne) = omega (arith, p.0 u (omega (arith, times_cons u v l, times_other u v ne)))

      before : key v ≤ key y → (u : ℕ) → 1 ≤ times u (insert_by key y l) → Dec (u ≡ y) → key v ≤ key u
      before h u t (yes e) = omega (arith, ap key e)
      before h u t (no ne) = p.0 u (omega (arith, times_insert u y l, times_cons u y l, times_other u y ne))

      go : (s : Bool) → ltb (key y) (key v) ≡ s → Rising (insert_by key y l) → Rising (if s then y ∷ v ∷ l else v ∷ insert_by key y l)
      go true e r = ((λ u t. after (ltb-true _ _ e) u t (ℕ_discrete u v)), p)
      go false e r = ((λ u t. before (ltb-false _ _ e) u t (ℕ_discrete u y)), r)

  rising_into : (sorted l : List ℕ) → Rising sorted → Rising (sort_into key sorted l)
  unfolding sort_into
  rising_into sorted [] p = p
  rising_into sorted (y ∷ l) p = rising_into (insert_by key y sorted) l (rising_insert y sorted p)

  pub rising_sort : (l : List ℕ) → Rising (sort_by key l)
  unfolding sort_by
  rising_sort l = rising_into [] l tt

  -- ---- the newest

  abbrev newer : ℕ → ℕ → Bool
  newer x y = ltb (key x) (key y)

  -- one that is not newer than any
  oldest : (x : ℕ) (l : List ℕ) → (m : ℕ) × (1 ≤ times m (x ∷ l)) × ((y : ℕ) → 1 ≤ times y (x ∷ l) → key m ≤ key y)
  unfolding times
  oldest x [] = (x, omega (arith, times_self x), λ y t. go y t (ℕ_discrete y x))
    where
      go : (y : ℕ) → 1 ≤ times y (x ∷ []) → Dec (y ≡ x) → key x ≤ key y
      go y t (yes e) = omega (arith, ap key e)
      go y t (no ne) = absurd (omega (arith, times_other y x ne))
  oldest x (v ∷ l) = go (oldest v l)
    where
      go : (m : ℕ) × (1 ≤ times m (v ∷ l)) × ((y : ℕ) → 1 ≤ times y (v ∷ l) → key m ≤ key y)
          → (m : ℕ) × (1 ≤ times m (x ∷ v ∷ l)) × ((y : ℕ) → 1 ≤ times y (x ∷ v ∷ l) → key m ≤ key y)
      go w = pick (dec_lt (key x) (key w.0))
        where
          least : (m : ℕ) → key m ≤ key x → key m ≤ key w.0 → (y : ℕ) → 1 ≤ times y (x ∷ v ∷ l) → Dec (y ≡ x) → key m ≤ key y
          least m h k y t (yes e) = omega (arith, ap key e)
          least m h k y t (no ne) = omega (arith, w.2 y (omega (arith, times_cons y x (v ∷ l), times_other y x ne)))

          pick : Dec (key x < key w.0) → (m : ℕ) × (1 ≤ times m (x ∷ v ∷ l)) × ((y : ℕ) → 1 ≤ times y (x ∷ v ∷ l) → key m ≤ key y)
          pick (yes u) = (x, omega (arith, times_cons x x (v ∷ l), times_self x), λ y t. least x (omega arith) (omega arith) y t (ℕ_discrete y x))
          pick (no u) = (w.0, omega (arith, w.1, times_cons w.0 x (v ∷ l)), λ y t. least w.0 (omega arith) (omega arith) y t (ℕ_discrete y x))

  others : (m : ℕ) (l : List ℕ) → ((y : ℕ) → 1 ≤ times y l → y ≢ m → key m < key y) → length l ≤ length (keep (newer m) l) + times m l
  unfolding keep times
  others m [] h = omega arith
  others m (y ∷ l) h = go (ℕ_discrete y m) (ltb (key m) (key y)) refl (others m l (λ v t. h v (omega (arith, times_cons v y l))))
    where
      go : Dec (y ≡ m) → (s : Bool) → ltb (key m) (key y) ≡ s → length l ≤ length (keep (newer m) l) + times m l
          → suc (length l) ≤ length (if s then y ∷ keep (newer m) l else keep (newer m) l) + times m (y ∷ l)
      go u true e r = omega (arith, times_cons m y l)
      go (yes u) false e r = omega (arith, times_cons m y l, ap (λ (v : ℕ). times m (v ∷ [])) u, times_self m)
      go (no u) false e r = absurd (omega (arith, ltb-false (key m) (key y) e, h y (omega (arith, times_cons y y l, times_self y)) u))

  -- of those that have fewer than n newer ones there are at most n
  pub length-newest : (t : ℕ → Bool) (n : ℕ) (l : List ℕ) → ((x : ℕ) → times x l ≤ 1)
      → ((x y : ℕ) → 1 ≤ times x l → 1 ≤ times y l → key x ≡ key y → x ≡ y)
      → ((x : ℕ) → 1 ≤ times x l → t x ≡ true → length (keep (newer x) l) < n) → length (keep t l) ≤ n
  length-newest t n l once inj few = go (keep t l) refl
    where
      go : (k : List ℕ) → keep t l ≡ k → length k ≤ n
      go [] e = omega arith
      go (x ∷ k) e =
          let w = oldest x k in
          let m = w.0 in
          let from : (y : ℕ) → 1 ≤ times y (x ∷ k) → (t y ≡ true) × (1 ≤ times y l) = λ y q. kept_in t y l (rw e q) in
          let older : (y : ℕ) → 1 ≤ times y (x ∷ k) → y ≢ m → key m < key y = λ y q ne. strict m y (w.2 y q) (λ s. ne (inj y m (from y q).1 (from m w.1).1 s)) in
          let most : length (x ∷ k) ≤ length (keep (newer m) (x ∷ k)) + times m (x ∷ k) = others m (x ∷ k) older in
          let one : times m (x ∷ k) ≤ times m l = rw (← e) (omega (arith, in_kept t m l (from m w.1).0)) in
          let fewer : length (keep (newer m) (x ∷ k)) ≤ length (keep (newer m) l) = rw (← e) (length-keep (newer m) t l) in
          omega (arith, most, one, fewer, once m, few m (from m w.1).1 (from m w.1).0)
        where
          strict : (m y : ℕ) → key m ≤ key y → (key y ≡ key m → ⊥) → key m < key y
          strict m y h ne = omega arith

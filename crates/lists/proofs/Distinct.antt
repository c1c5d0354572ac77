-- When the values at the numbers below n that pass a test are distinct.
use Prim.Native.Nat.{ℕ, zero, suc, ◌<◌}
use mathlib.Core.Path.{◌≡◌, refl, sym, ap, ◌∙◌}
use mathlib.Core.Logic.{◌⊎◌, inl, inr}
use mathlib.Core.Bool.{Bool, true, false, not, ◌&&◌, ◌||◌, true≢false}
use mathlib.Core.List.{List, [], ◌∷◌, ◌++◌, map, append-nil}
use native.Mathlib.Omega.{arith}
use native.Mathlib.Decide.{ℕ_discrete}
use lib.Dec.{eqb}
use borrow.Author.Tests.{eqb-true, eq-eqb, ne_eqb, not-true}
use Rattle.std.specs.Prelude.{if◌then◌else◌}
use Rattle.lists.specs.Lists.{row, any, keep, below, member, distinct}
use Rattle.lists.proofs.Tests.{and_left, and_right, and-true, or-true, or_cases}
use Rattle.lists.proofs.Rows.{map_append}

eqb-sym : (x y : ℕ) → eqb x y ≡ eqb y x
eqb-sym x y = go (ℕ_discrete x y)
  where
    go : Dec (x ≡ y) → eqb x y ≡ eqb y x
    go (yes e) = eq-eqb x y e ∙ sym (eq-eqb y x (sym e))
    go (no ne) = ne_eqb x y ne ∙ sym (ne_eqb y x (λ e. ne (sym e)))

-- a list with one more at its end
pub member_last : (x : ℕ) (l : List ℕ) (y : ℕ) → member x (l ++ (y ∷ [])) ≡ member x l || eqb x y
unfolding member any
member_last x [] y = go (eqb x y)
  where
    go : (t : Bool) → t || false ≡ t
    go true = refl
    go false = refl
member_last x (v ∷ l) y = go (eqb x v) (member_last x l y)
  where
    go : (t : Bool) → any (eqb x) (l ++ (y ∷ [])) ≡ any (eqb x) l || eqb x y → t || any (eqb x) (l ++ (y ∷ [])) ≡ (t || any (eqb x) l) || eqb x y
    go true h = refl
    go false h = h

pub distinct_last : (l : List ℕ) (y : ℕ) → distinct (l ++ (y ∷ [])) ≡ distinct l && not (member y l)
unfolding distinct member any
distinct_last [] y = refl
distinct_last (x ∷ l) y =
    rw (distinct_last l y, member_last x l y, eqb-sym x y) (go (member x l) (eqb y x) (distinct l) (member y l))
  where
    go : (s t u v : Bool) → not (s || t) && (u && not v) ≡ (not s && u) && not (t || v)
    go true t u v = refl
    go false true true v = refl
    go false true false v = refl
    go false false u v = refl

module _ (t : ℕ → Bool) (f : ℕ → ℕ) where
  keep_last : (l : List ℕ) (k : ℕ) → keep t (l ++ (k ∷ [])) ≡ keep t l ++ (if t k then k ∷ [] else [])
  unfolding keep
  keep_last [] k = refl
  keep_last (x ∷ l) k = go (t x) (keep_last l k)
    where
      go : (s : Bool) → keep t (l ++ (k ∷ [])) ≡ keep t l ++ (if t k then k ∷ [] else [])
          → (if s then x ∷ keep t (l ++ (k ∷ [])) else keep t (l ++ (k ∷ []))) ≡ (if s then x ∷ keep t l else keep t l) ++ (if t k then k ∷ [] else [])
      go true h = ap (λ m. x ∷ m) h
      go false h = h

  abbrev values : ℕ → List ℕ
  values n = map f (keep t (below n))

  values_more : (n : ℕ) → t n ≡ true → values (suc n) ≡ values n ++ (f n ∷ [])
  unfolding below row
  values_more n h = rw (keep_last (below n) n, h) (map_append f (keep t (below n)) (n ∷ []))

  values_same : (n : ℕ) → t n ≡ false → values (suc n) ≡ values n
  unfolding below row
  values_same n h = rw (keep_last (below n) n, h) (map_append f (keep t (below n)) [] ∙ append-nil (map f (keep t (below n))))

  value_in : (n k : ℕ) → k < n → t k ≡ true → member (f k) (values n) ≡ true
  value_in zero k h tk = absurd (omega arith)
  value_in (suc n) k h tk = go (t n) refl (ℕ_discrete k n) (λ q. value_in n k q tk)
    where
      go : (s : Bool) → t n ≡ s → Dec (k ≡ n) → (k < n → member (f k) (values n) ≡ true) → member (f k) (values (suc n)) ≡ true
      go true e (yes q) r = rw (values_more n e, member_last (f k) (values n) (f n), eq-eqb (f k) (f n) (ap f q)) (or-true (member (f k) (values n)))
      go true e (no q) r = rw (values_more n e, member_last (f k) (values n) (f n), r (omega arith))
      go false e (yes q) r = absurd (true≢false (sym tk ∙ ap t q ∙ e))
      go false e (no q) r = rw (values_same n e) (r (omega arith))

  in_value : (n x : ℕ) → member x (values n) ≡ true → (k : ℕ) × (k < n) × (t k ≡ true) × (f k ≡ x)
  unfolding below row keep member any
  in_value zero x h = absurd (true≢false (sym h))
  in_value (suc n) x h = go (t n) refl (λ q. in_value n x q)
    where
      wider : (k : ℕ) × (k < n) × (t k ≡ true) × (f k ≡ x) → (k : ℕ) × (k < suc n) × (t k ≡ true) × (f k ≡ x)
      wider w = (w.0, omega (arith, w.1), w.2, w.3)

      go : (s : Bool) → t n ≡ s → (member x (values n) ≡ true → (k : ℕ) × (k < n) × (t k ≡ true) × (f k ≡ x)) → (k : ℕ) × (k < suc n) × (t k ≡ true) × (f k ≡ x)
      go false e r = wider (r (sym (ap (member x) (values_same n e)) ∙ h))
      go true e r = pick (or_cases (member x (values n)) (eqb x (f n)) (sym (member_last x (values n) (f n)) ∙ sym (ap (member x) (values_more n e)) ∙ h))
        where
          pick : (member x (values n) ≡ true) ⊎ (eqb x (f n) ≡ true) → (k : ℕ) × (k < suc n) × (t k ≡ true) × (f k ≡ x)
          pick (inl q) = wider (r q)
          pick (inr q) = (n, omega arith, e, sym (eqb-true x (f n) q))

  -- no two of the values are equal
  abbrev pub Differ : ℕ → Type 0
  Differ n = (k j : ℕ) → k < n → j < n → t k ≡ true → t j ≡ true → f k ≡ f j → k ≡ j

  pub distinct_differ : (n : ℕ) → distinct (values n) ≡ true → Differ n
  distinct_differ zero h k j hk hj tk tj e = absurd (omega arith)
  distinct_differ (suc n) h k j hk hj tk tj e = go (t n) refl (distinct_differ n) (ℕ_discrete k n) (ℕ_discrete j n)
    where
      last : t n ≡ true → distinct (values n) && not (member (f n) (values n)) ≡ true
      last q = sym (distinct_last (values n) (f n)) ∙ sym (ap distinct (values_more n q)) ∙ h

      clash : t n ≡ true → (i : ℕ) → i < n → t i ≡ true → f i ≡ f n → ⊥
      clash q i hi ti ei =
          let no_member : member (f n) (values n) ≡ false = not-true _ (and_right (distinct (values n)) _ (last q)) in
          true≢false (sym (value_in n i hi ti) ∙ ap (λ (x : ℕ). member x (values n)) ei ∙ no_member)

      go : (s : Bool) → t n ≡ s → (distinct (values n) ≡ true → Differ n) → Dec (k ≡ n) → Dec (j ≡ n) → k ≡ j
      go s q r (yes a) (yes b) = a ∙ sym b
      go true q r (yes a) (no b) = absurd (clash q j (omega arith) tj (sym e ∙ ap f a))
      go true q r (no a) (yes b) = absurd (clash q k (omega arith) tk (e ∙ ap f b))
      go true q r (no a) (no b) = r (and_left (distinct (values n)) _ (last q)) k j (omega arith) (omega arith) tk tj e
      go false q r (yes a) (no b) = absurd (true≢false (sym tk ∙ ap t a ∙ q))
      go false q r (no a) (yes b) = absurd (true≢false (sym tj ∙ ap t b ∙ q))
      go false q r (no a) (no b) = r (sym (ap distinct (values_same n q)) ∙ h) k j (omega arith) (omega arith) tk tj e

  pub differ_distinct : (n : ℕ) → Differ n → distinct (values n) ≡ true
  unfolding below row keep distinct
  differ_distinct zero h = refl
  differ_distinct (suc n) h = go (t n) refl (differ_distinct n (λ k j hk hj. h k j (omega arith) (omega arith)))
    where
      none : t n ≡ true → (s : Bool) → member (f n) (values n) ≡ s → not s ≡ true
      none q false e = refl
      none q true e = let w = in_value n (f n) e in absurd (omega (arith, w.1, h w.0 n (omega (arith, w.1)) (omega arith) w.2 q w.3))

      go : (s : Bool) → t n ≡ s → distinct (values n) ≡ true → distinct (values (suc n)) ≡ true
      go true q r = ap distinct (values_more n q) ∙ distinct_last (values n) (f n) ∙ and-true r (none q (member (f n) (values n)) refl)
      go false q r = ap distinct (values_same n q) ∙ r

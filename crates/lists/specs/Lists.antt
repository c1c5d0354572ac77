-- Lists as the definitions use them: rows, selections, counts, orders, parts.
use Rattle.std.specs.Prelude.{ℕ, zero, suc, ◌+◌, max, Bool, true, false, not, ◌&&◌, ◌||◌, List, [], ◌∷◌, ◌++◌, length, take, drop, get_or, replicate, leb, ltb, eqb, if◌then◌else◌}

-- every test of the list holds
unfoldable pub every : List Bool → Bool
every [] = true
every (t ∷ ts) = t && every ts

unfoldable pub within : ℕ → ℕ → ℕ → Bool
within low high n = leb low n && leb n high

module _ {A : Type 0} where
  -- f 0, f 1, .. : n values
  unfoldable pub row : ℕ → (ℕ → A) → List A
  row zero f = []
  row (suc n) f = row n f ++ (f n ∷ [])

  unfoldable pub all : (A → Bool) → List A → Bool
  all t [] = true
  all t (x ∷ xs) = t x && all t xs

  unfoldable pub any : (A → Bool) → List A → Bool
  any t [] = false
  any t (x ∷ xs) = t x || any t xs

  -- those that pass the test, in order
  unfoldable pub keep : (A → Bool) → List A → List A
  keep t [] = []
  keep t (x ∷ xs) = if t x then x ∷ keep t xs else keep t xs

  unfoldable pub empty : List A → Bool
  empty [] = true
  empty (x ∷ xs) = false

-- 0, 1, .. , n - 1
unfoldable pub below : ℕ → List ℕ
below n = row n (λ k. k)

-- the test holds for all k < n
unfoldable pub all_below : ℕ → (ℕ → Bool) → Bool
all_below zero t = true
all_below (suc n) t = all_below n t && t n

-- the test holds for some k < n
unfoldable pub any_below : ℕ → (ℕ → Bool) → Bool
any_below zero t = false
any_below (suc n) t = any_below n t || t n

-- how many k < n pass the test
unfoldable pub count_below : ℕ → (ℕ → Bool) → ℕ
count_below zero t = 0
count_below (suc n) t = if t n then count_below n t + 1 else count_below n t

-- the largest f k with k < n, or 0
unfoldable pub max_below : ℕ → (ℕ → ℕ) → ℕ
max_below zero f = 0
max_below (suc n) f = max (max_below n f) (f n)

-- the first of the list, or 0
unfoldable pub head : List ℕ → ℕ
head l = get_or l 0 0

unfoldable pub member : ℕ → List ℕ → Bool
member x l = any (eqb x) l

-- how often x stands in the list
unfoldable pub times : ℕ → List ℕ → ℕ
times x [] = 0
times x (y ∷ ys) = if eqb x y then times x ys + 1 else times x ys

unfoldable pub distinct : List ℕ → Bool
distinct [] = true
distinct (x ∷ xs) = not (member x xs) && distinct xs

unfoldable pub concat_map : {A B : Type 0} → (A → List B) → List A → List B
concat_map f [] = []
concat_map f (x ∷ xs) = f x ++ concat_map f xs

-- by a key, rising: each element is put behind those whose key is not above its own
unfoldable pub insert_by : (ℕ → ℕ) → ℕ → List ℕ → List ℕ
insert_by key x [] = x ∷ []
insert_by key x (y ∷ ys) = if ltb (key x) (key y) then x ∷ y ∷ ys else y ∷ insert_by key x ys

unfoldable pub sort_into : (ℕ → ℕ) → List ℕ → List ℕ → List ℕ
sort_into key sorted [] = sorted
sort_into key sorted (x ∷ xs) = sort_into key (insert_by key x sorted) xs

unfoldable pub sort_by : (ℕ → ℕ) → List ℕ → List ℕ
sort_by key l = sort_into key [] l

-- ---- bytes

-- l with the bytes bs from index i on
unfoldable pub splice : List ℕ → ℕ → List ℕ → List ℕ
splice l i bs = take i l ++ (bs ++ drop (i + length bs) l)

-- n bytes of l from index i on
unfoldable pub part : List ℕ → ℕ → ℕ → List ℕ
part l i n = take n (drop i l)

-- n bytes FF
abbrev pub ff : ℕ → List ℕ
ff n = replicate n 255

unfoldable pub same : List ℕ → List ℕ → Bool
same [] [] = true
same [] (y ∷ ys) = false
same (x ∷ xs) [] = false
same (x ∷ xs) (y ∷ ys) = eqb x y && same xs ys

-- Laws of lists kept in arrays, and of loops over the first n places of one.
use Prim.Native.Nat.{ℕ, zero, suc, ◌+◌, ◌-◌, ◌≤◌, ◌<◌}
use mathlib.Core.Path.{◌≡◌, refl, sym, ap, ◌∙◌}
use mathlib.Core.Bool.{Bool, true, false, ◌&&◌, and_assoc, and-true}
use mathlib.Core.List.{List, [], ◌∷◌, ◌++◌, map, append-nil, append_assoc}
use native.Mathlib.Numerals.{add-one}
use native.Mathlib.Nat.{zero-add, zero-sub, suc-sub-suc, sub-zero}
use native.Mathlib.Omega.{arith}
use lib.ListN.{length, take, drop, get_or, set, replicate, length-append, length-take, length-map, length-replicate, replicate-append-replicate, take-append-drop, drop_of_length-le}
use lib.Seq.{take-suc, take-suc-set, take_all, take_at, take-nil, slice-cons, length-take-le, paste, paste-suc, drop-paste, get_or-drop}
use lib.Dec.{eqb, eqb-suc-zero}
use Rattle.std.specs.Prelude.{if◌then◌else◌}
use Rattle.lists.specs.Lists.{all, keep, empty}
use Rattle.lists.specs.Arrays.{joined, padded}
use Rattle.lists.proofs.Tests.{and_left, and_right}
use Rattle.lists.proofs.Rows.{map_append}
use Rattle.lists.proofs.Turns.{keep_append}

module _ {A : Type 0} where
  -- ---- the first n places

  -- a loop over the first n that stands at i has `drop i (take n l)` before it
  pub rest_more : (i n : ℕ) (l : List A) (d : A) → i < n → n ≤ length l → drop i (take n l) ≡ get_or l i d ∷ drop (i + 1) (take n l)
  rest_more i n l d h k = rw add-one (slice-cons i n l d h k)

  pub rest-none : (i n : ℕ) (l : List A) → n ≤ i → drop i (take n l) ≡ []
  rest-none i n l h = drop_of_length-le (take n l) {i = i} (simp length-take (omega arith))

  -- and `take i l` behind it
  pub done_more : (i : ℕ) (l : List A) (d : A) → i < length l → take (i + 1) l ≡ take i l ++ (get_or l i d ∷ [])
  done_more i l d h = rw add-one (take-suc l i d h)

  -- one element written behind the first i
  pub written : (i : ℕ) (l : List A) (x : A) → i < length l → take (i + 1) (set l i x) ≡ take i l ++ (x ∷ [])
  written i l x h = rw add-one (take-suc-set l i x h)

  pub drop-take : (i n : ℕ) (l : List A) → drop i (take n l) ≡ take (n - i) (drop i l)
  drop-take zero n l = rw sub-zero
  drop-take (suc i) zero l = rw zero-sub
  drop-take (suc i) (suc n) [] = sym (take-nil (suc n - suc i))
  drop-take (suc i) (suc n) (x ∷ l) = rw suc-sub-suc (drop-take i n l)

  -- a list cut at its own length
  pub take-used : (n k : ℕ) (l : List A) → n ≡ length (take k l) → take n l ≡ take k l
  take-used n zero l e = ap (λ j. take j l) e
  take-used n (suc k) [] e = rw take-nil
  take-used n (suc k) (x ∷ l) e = rw e (ap (λ t. x ∷ t) (take-used (length (take k l)) k l refl))

  -- ---- an array that is filled from the elements of l

  pub pasted_more : (d : List A) (at : ℕ) (s : List A) (i : ℕ) (z : A) → at + i < length d → i < length s
      → set (paste d at s i) (at + i) (get_or s i z) ≡ paste d at s (i + 1)
  pasted_more d at s i z h k = rw (add-one i) (paste-suc d at s i z h k)

  pub filled_more : (d s : List A) (i : ℕ) (z : A) → i < length d → i < length s → set (paste d 0 s i) i (get_or s i z) ≡ paste d 0 s (i + 1)
  filled_more d s i z h k =
      ap (λ j. set (paste d 0 s i) j (get_or s i z)) (sym (zero-add i)) ∙ pasted_more d 0 s i z (rw zero-add h) k

  pub pasted_front : (d s : List A) (n : ℕ) → n ≤ length s → take n (paste d 0 s n) ≡ take n s
  pasted_front d s n h = take_at (take n s) (drop (0 + n) d) n (length-take-le n s h)

  -- a list of which each of the first i took the next one's element: behind these each is still its own
  pub shifted_behind : (l : List A) (i : ℕ) (d : A) → i < length (drop 1 l) → get_or (paste l 0 (drop 1 l) i) (i + 1) d ≡ get_or (drop 1 l) i d
  shifted_behind l i d h =
      let moved = paste l 0 (drop 1 l) i in
      ap (λ (k : ℕ). get_or moved k d) (omega arith)
      ∙ (sym (get_or-drop (0 + i) moved 1 d)
      ∙ (ap (λ (m : List A). get_or m 1 d) (drop-paste l 0 (drop 1 l) i (omega arith) (omega arith))
      ∙ (get_or-drop (0 + i) l 1 d
      ∙ (ap (λ (k : ℕ). get_or l k d) (omega arith) ∙ sym (get_or-drop 1 l i d)))))

  pub pasted_padded : (c n : ℕ) (d : A) (l : List A) → n ≤ length l → paste (replicate c d) 0 l n ≡ padded c d (take n l)
  unfolding padded
  pasted_padded c n d l h = rw (length-take-le n l h, zero-add n, drop-replicate c n d)
    where
      drop-replicate : (c n : ℕ) (d : A) → drop n (replicate c d) ≡ replicate (c - n) d
      drop-replicate c zero d = rw sub-zero
      drop-replicate zero (suc n) d = rw zero-sub
      drop-replicate (suc c) (suc n) d = rw suc-sub-suc (drop-replicate c n d)

  pub padded_whole : (c : ℕ) (d : A) (l : List A) → c ≤ length l → padded c d l ≡ l
  unfolding padded
  padded_whole c d l h = let e : c - length l ≡ 0 = omega arith in rw (e, append-nil l)

  pub padded-length : (c : ℕ) (d : A) (l : List A) → length l ≤ c → length (padded c d l) ≡ c
  unfolding padded
  padded-length c d l h = rw (length-append l (replicate (c - length l) d), length-replicate (c - length l) d) (omega arith)

  pub padded_view : (c : ℕ) (d : A) (l : List A) → take (length l) (padded c d l) ≡ l
  unfolding padded
  padded_view c d l = take_at l (replicate (c - length l) d) (length l) refl

  -- one place more, with d in it
  pub padded_more : (i : ℕ) (d : A) (l a : List A) → length l ≤ i → i < length a → take i a ≡ padded i d l → take (i + 1) (set a i d) ≡ padded (i + 1) d l
  unfolding padded
  padded_more i d l a h k e =
      let more : i + 1 - length l ≡ i - length l + 1 = omega arith in
      written i a d k
      ∙ (ap (λ m. m ++ (d ∷ [])) e
      ∙ (append_assoc l (replicate (i - length l) d) (d ∷ []) ∙ ap (λ m. l ++ m) (replicate-append-replicate (i - length l) 1 d ∙ ap (λ n. replicate n d) (sym more))))

  pub empty-length : (l : List A) → empty l ≡ eqb (length l) 0
  unfolding empty
  empty-length [] = refl
  empty-length (x ∷ l) = sym (eqb-suc-zero (length l))

  -- ---- joining

  pub joined-fits : (c : ℕ) (l m : List A) → length (l ++ m) ≤ c → joined c l m ≡ l ++ m
  unfolding joined
  joined-fits c l m h = take_all c (l ++ m) h

  pub joined-none : (c : ℕ) (l : List A) → length l ≤ c → joined c l [] ≡ l
  unfolding joined
  joined-none c l h = rw append-nil (take_all c l h)

  -- an array of c places whose first n are a list, and x behind them: with room, and full
  pub push_room : (c n : ℕ) (l : List A) (x : A) → n < c → length l ≡ c → take (n + 1) (set l n x) ≡ joined c (take n l) (x ∷ [])
  push_room c n l x h e =
      let b : n < length l = omega arith in
      let k : length (take n l ++ (x ∷ [])) ≤ c = simp (length-append, length-take) (omega arith) in
      written n l x b ∙ sym (joined-fits c (take n l) (x ∷ []) k)

  pub push_full : (c n : ℕ) (l : List A) (x : A) → c ≤ n → length l ≡ c → take n l ≡ joined c (take n l) (x ∷ [])
  unfolding joined
  push_full c n l x h e = rw (take_all n l (omega arith)) (sym (take_at l (x ∷ []) c e))

-- ---- tests, and one turn of a loop

module _ {A B : Type 0} (f : A → B) where
  -- a loop that writes f of each element
  pub mapped_more : (i : ℕ) (l : List A) (a : List B) (d : A) → i < length l → i < length a → take i a ≡ map f (take i l)
      → take (i + 1) (set a i (f (get_or l i d))) ≡ map f (take (i + 1) l)
  mapped_more i l a d h k e = rw (written i a (f (get_or l i d)) k, done_more i l d h, e, map_append f (take i l) (get_or l i d ∷ []))

module _ {A : Type 0} (t : A → Bool) where
  pub all_append : (l m : List A) → all t (l ++ m) ≡ (all t l && all t m)
  unfolding all
  all_append [] m = refl
  all_append (x ∷ l) m = rw (all_append l m) (sym (and_assoc (t x) (all t l) (all t m)))

  module _ (n : ℕ) (l : List A) (h : all t l ≡ true) where
    both : all t (take n l) && all t (drop n l) ≡ true
    both = sym (all_append (take n l) (drop n l)) ∙ (ap (all t) (take-append-drop n l) ∙ h)

    pub all_take : all t (take n l) ≡ true
    all_take = and_left (all t (take n l)) (all t (drop n l)) both

    pub all_drop : all t (drop n l) ≡ true
    all_drop = and_right (all t (take n l)) (all t (drop n l)) both

  pub all_at : (l : List A) → all t l ≡ true → (i : ℕ) (d : A) → i < length l → t (get_or l i d) ≡ true
  unfolding all
  all_at [] h i d k = absurd (omega arith)
  all_at (x ∷ l) h zero d k = and_left (t x) (all t l) h
  all_at (x ∷ l) h (suc i) d k = all_at l (and_right (t x) (all t l) h) i d (omega arith)

  -- a loop that tests each element
  pub tested_more : (i : ℕ) (l : List A) (d : A) → i < length l → all t (take (i + 1) l) ≡ (all t (take i l) && t (get_or l i d))
  unfolding all
  tested_more i l d h = rw (done_more i l d h, all_append (take i l) (get_or l i d ∷ []), and-true)

  pub keep-length : (l : List A) → length (keep t l) ≤ length l
  unfolding keep
  keep-length [] = omega arith
  keep-length (x ∷ l) = at (t x) (keep-length l)
    where
      at : (b : Bool) → length (keep t l) ≤ length l → length (if b then x ∷ keep t l else keep t l) ≤ suc (length l)
      at true h = omega arith
      at false h = omega arith

  -- a loop that keeps those that pass
  pub keep-step : (i : ℕ) (l : List A) (d : A) → i < length l → (b : Bool) → t (get_or l i d) ≡ b
      → keep t (take (i + 1) l) ≡ keep t (take i l) ++ (if b then get_or l i d ∷ [] else [])
  unfolding keep
  keep-step i l d h b e = rw (done_more i l d h, keep_append t (take i l) (get_or l i d ∷ []), e)

-- An array of structs has its length by way of `map`: `search (needs, length_mapped)`.
pub length_mapped : (X Y : Type 0) (f : X → Y) (l : List X) (n : ℕ) → length (map f l) ≡ n → length l ≡ n
length_mapped X Y f l n e = sym (length-map l f) ∙ e

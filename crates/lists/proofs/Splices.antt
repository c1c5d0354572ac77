-- Laws of splices that follow each other, and of a splice at the start; tests of all elements of parts and splices.
use mathlib.Core.Path.{◌≡◌, sym, ap, ◌∙◌}
use mathlib.Core.Logic.{inl}
use mathlib.Core.Bool.{Bool, true}
use mathlib.Core.List.{List, [], ◌∷◌, ◌++◌, append_assoc}
use Prim.Native.Nat.{ℕ, ◌+◌, ◌<◌, ◌≤◌}
use native.Mathlib.Nat.{zero-add, add-zero, add_assoc}
use native.Mathlib.Numerals.{add-one}
use native.Mathlib.Omega.{arith}
use lib.ListN.{length, take, drop, set, length-append, length-drop, take-append-drop}
use lib.Seq.{set_split, drop-drop, drop_at, take_at, take-add, length-take-le}
use Rattle.lists.specs.Lists.{all, splice, part}
use Rattle.lists.proofs.Tests.{and-true}
use Rattle.lists.proofs.Arrays.{all_append, all_take, all_drop}
use Rattle.lists.proofs.Parts.{length-part-fits, splice_comm}

-- one element
pub splice_one : (l : List ℕ) (i x : ℕ) → i < length l → set l i x ≡ splice l i (x ∷ [])
unfolding splice
splice_one l i x h = rw (add-one i) (set_split l i x h)

pub splice-none : (l : List ℕ) (i : ℕ) → splice l i [] ≡ l
unfolding splice
splice-none l i = rw (add-zero i) (take-append-drop i l)

pub splice_start : (l bs : List ℕ) → splice l 0 bs ≡ bs ++ drop (length bs) l
unfolding splice
splice_start l bs = rw (zero-add (length bs))

-- a splice right behind another
pub splice_next : (l : List ℕ) (i : ℕ) (xs ys : List ℕ) → i + length xs ≤ length l → splice (splice l i xs) (i + length xs) ys ≡ splice l i (xs ++ ys)
unfolding splice
splice_next l i xs ys h =
    let rest = drop (i + length xs) l in
    let front = take i l ++ xs in
    let e : length front ≡ i + length xs = length-append (take i l) xs ∙ ap (λ (n : ℕ). n + length xs) (length-take-le i l (omega arith)) in
    rw (
      ← append_assoc (take i l) xs rest,
      take_at front rest (i + length xs) e,
      ← drop-drop (length ys) (i + length xs) (front ++ rest),
      drop_at front rest (i + length xs) e,
      drop-drop (length ys) (i + length xs) l,
      length-append xs ys,
    )
    (simp (append_assoc, add_assoc))

-- a part put back where it was
pub splice_own : (l : List ℕ) (i n : ℕ) → i + n ≤ length l → splice l i (part l i n) ≡ l
unfolding splice part
splice_own l i n h =
    let e : length (take n (drop i l)) ≡ n = length-take-le n (drop i l) (omega (arith, length-drop i l)) in
    rw (e, ← drop-drop n i l, take-append-drop n (drop i l), take-append-drop i l)

-- one part behind another
pub part_next : (l : List ℕ) (a i n : ℕ) → part l a (i + n) ≡ part l a i ++ part l (a + i) n
unfolding part
part_next l a i n = rw (take-add i n (drop a l), drop-drop i a l)

-- a part of bytes put before the part that follows it
pub splice_before : (l bytes : List ℕ) (at a i n : ℕ) → at + i + n ≤ length l → a + i + n ≤ length bytes
    → splice (splice l (at + i) (part bytes (a + i) n)) at (part bytes a i) ≡ splice l at (part bytes a (i + n))
splice_before l bytes at a i n h k =
    let first : length (part bytes a i) ≡ i = length-part-fits bytes a i (omega arith) in
    let rest : length (part bytes (a + i) n) ≡ n = length-part-fits bytes (a + i) n (omega arith) in
    splice_comm l (at + i) (part bytes (a + i) n) at (part bytes a i) (omega arith) (omega arith) (inl (omega arith))
    ∙ rw (part_next bytes a i n)
    (ap (λ (j : ℕ). splice (splice l at (part bytes a i)) (at + j) (part bytes (a + i) n)) (sym first) ∙ splice_next l at (part bytes a i) (part bytes (a + i) n) (omega arith))

-- ---- what holds of all elements

module _ (t : ℕ → Bool) where
  pub all-part : (l : List ℕ) (i n : ℕ) → all t l ≡ true → all t (part l i n) ≡ true
  unfolding part
  all-part l i n h = all_take t n (drop i l) (all_drop t i l h)

  pub all-splice : (l : List ℕ) (i : ℕ) (bs : List ℕ) → all t l ≡ true → all t bs ≡ true → all t (splice l i bs) ≡ true
  unfolding splice
  all-splice l i bs h k =
      rw (all_append t (take i l) (bs ++ drop (i + length bs) l), all_append t bs (drop (i + length bs) l))
      (and-true (all_take t i l h) (and-true k (all_drop t (i + length bs) l h)))

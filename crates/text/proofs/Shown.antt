-- What is printed of a line, laid over the start of a buffer.
use mathlib.Core.Path.{◌≡◌, ap, ◌∙◌}
use mathlib.Core.List.{List, [], ◌∷◌, ◌++◌}
use Prim.Native.Nat.{ℕ, ◌+◌, ◌*◌, ◌/◌, ◌%◌, ◌≤◌}
use native.Mathlib.Omega.{arith}
use lib.ListN.{length, drop, set, length-append}
use Rattle.lists.specs.Lists.{splice}
use Rattle.lists.proofs.Parts.{length-splice}
use Rattle.lists.proofs.Splices.{splice_one, splice_next, splice_start}
use Rattle.model.specs.Driving.{digits_of, shown}
use Rattle.model.proofs.Digits.{digits_length}

module _ (a n : ℕ) (bs : List ℕ) where
  -- the bytes printed
  abbrev all : List ℕ
  all = a ∷ n / 256 ∷ n % 256 ∷ bs

  pub shown-length : length (shown a n bs) ≡ 6 + length bs * 2 + 1
  unfolding shown
  shown-length = length-append (digits_of all) (10 ∷ []) ∙ rw (digits_length all) (omega arith)

  -- the first three bytes, the others, the line feed
  pub put_shown : (l : List ℕ) → 7 + length bs * 2 ≤ length l
      → set (splice (splice l 0 (digits_of (a ∷ n / 256 ∷ n % 256 ∷ []))) 6 (digits_of bs)) (6 + length bs * 2) 10
      ≡ shown a n bs ++ drop (6 + length bs * 2 + 1) l
  unfolding shown digits_of
  put_shown l h =
      let three = digits_of (a ∷ n / 256 ∷ n % 256 ∷ []) in
      let e = digits_length all in
      let d : 6 + length bs * 2 ≡ 0 + length (digits_of all) = omega arith in
      let s : length (splice l 0 (digits_of all)) ≡ length l = length-splice l 0 (digits_of all) (omega arith) in
      ap (λ (m : List ℕ). set m (6 + length bs * 2) 10) (splice_next l 0 three (digits_of bs) (omega arith))
      ∙ splice_one (splice l 0 (digits_of all)) (6 + length bs * 2) 10 (omega arith)
      ∙ ap (λ (k : ℕ). splice (splice l 0 (digits_of all)) k (10 ∷ [])) d
      ∙ splice_next l 0 (digits_of all) (10 ∷ []) (omega arith)
      ∙ splice_start l (digits_of all ++ (10 ∷ []))
      ∙ ap (λ (k : ℕ). (digits_of all ++ (10 ∷ [])) ++ drop k l) shown-length

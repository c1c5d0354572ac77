-- The output, case by case: a first line that is turned down, a faulty line, a text written again.
use mathlib.Core.Path.{◌≡◌, refl, sym, ap, ◌∙◌}
use mathlib.Core.Bool.{Bool, true, false}
use mathlib.Core.List.{List, [], ◌∷◌, ◌++◌}
use Prim.Native.Nat.{ℕ, ◌+◌, ◌*◌, ◌-◌, ◌≤◌, ◌<◌}
use native.Mathlib.Omega.{arith}
use native.Mathlib.Nat.{add_comm}
use borrow.Author.Tests.{ne_eqb, leb-true, leb-false}
use lib.Dec.{leb}
use Rattle.std.specs.Prelude.{min}
use Rattle.std.proofs.Math.Nat.{min-eq_left, min-eq_right}
use lib.ListN.{length, take, drop, length-append, length-take}
use lib.Seq.{take-append_seam, take-take}
use Rattle.lists.specs.Lists.{all, part}
use Rattle.lists.proofs.Arrays.{drop-take}
use Rattle.model.specs.declared.Sizes.{Sizes}
use Rattle.model.specs.Tests.{first_failed}
use Rattle.model.specs.Sizes.{limits, flash_size}
use Rattle.model.specs.Driving.{is_digit, bytes_of, digits_of, sizes_at, lines_of, shown}
use Rattle.model.specs.Mail.{text_fault, text_of, image_of}
use Rattle.model.proofs.Limits.{Limits}
use Rattle.model.proofs.Calling.{first_passed}
use Rattle.geometry.proofs.Passed.{products}
use Rattle.receive.specs.Given.{sound_lines}
use Rattle.rewrite.specs.Rewrite.{sizes_line, sizes_bytes, sizes_of, is_held, first_tests, no_chip, rewritten_text, rewritten}
use Rattle.rewrite.proofs.First.{eighteen, digits_alone}
use Rattle.rewrite.proofs.Few.{few_sound, none_given}

-- what was printed stands at the start
pub printed : (s l out : List ℕ) (n : ℕ) → n ≡ length s → out ≡ s ++ drop n l → (n ≤ length out) × (take n out ≡ s)
printed s l out n e q = (omega (arith, ap length q, length-append s (drop n l)), rw (q, e) (take-append_seam s (drop (length s) l)))

module _ (z : Sizes) (text : List ℕ) where
  -- the line of a fault has a number of two bytes
  pub few_lines : Limits z → sound_lines z [] (lines_of text) ≤ 16384
  few_lines l = omega (arith, few_sound z (z.c * z.p) [] (lines_of text) (none_given z), (products l).pages)

  pub fault_shown : (sizes : List ℕ) (number before : ℕ) → number ≡ text_fault z text → before ≡ sound_lines z [] (lines_of text) → (number ≡ 0 → ⊥)
      → shown number (before + 2) [] ≡ rewritten_text z sizes text
  unfolding rewritten_text
  fault_shown sizes number before e b ne = rw (← e, ← b, ne_eqb number 0 ne, add_comm before 2)

  pub text_shown : (sizes : List ℕ) → text_fault z text ≡ 0 → digits_of sizes ++ (10 ∷ text_of z (image_of z no_chip text)) ≡ rewritten_text z sizes text
  unfolding rewritten_text
  text_shown sizes h = rw h

-- the first line
module _ (input : List ℕ) where
  pub first_shown : (n : ℕ) → n ≡ first_failed (first_tests input) → (n ≡ 0 → ⊥) → shown n 1 [] ≡ rewritten input
  unfolding rewritten
  first_shown n e ne = rw (← e, ne_eqb n 0 ne)

  module _ (none : first_failed (first_tests input) ≡ 0) where
    pub behind_first : rewritten_text (sizes_of input) (sizes_bytes input) (drop 19 input) ≡ rewritten input
    unfolding rewritten
    behind_first = rw none

    pub is_line : sizes_line input ≡ true
    unfolding first_tests
    is_line = (first_passed 8 (sizes_line input) _ none).0

    pub in_limits : limits (sizes_of input) ≡ true
    unfolding first_tests
    in_limits = (first_passed 0 (limits (sizes_of input)) _ (first_passed 8 (sizes_line input) _ none).1).0

    pub in_room : flash_size (sizes_of input) ≤ 1048576
    unfolding first_tests is_held
    in_room = leb-true (flash_size (sizes_of input)) 1048576
        (first_passed 0xF0 (is_held (sizes_of input)) [] (first_passed 0 (limits (sizes_of input)) _ (first_passed 8 (sizes_line input) _ none).1).1).0

-- an input that is the front of a buffer
module _ (l : List ℕ) (end : ℕ) where
  short_rest : end < 19 → part l end (end - end) ≡ drop 19 (take end l)
  unfolding part
  short_rest h =
      let none : end - end ≡ 0 = omega arith in
      let less : end - 19 ≡ 0 = omega arith in
      rw (drop-take 19 end l, none, less)

  long_rest : part l 19 (end - 19) ≡ drop 19 (take end l)
  unfolding part
  long_rest = sym (drop-take 19 end l)

  -- the text behind its first line, which may be all
  pub behind : (from : ℕ) → from ≡ min end 19 → (from ≤ end) × (part l from (end - from) ≡ drop 19 (take end l))
  behind from e = go (leb 19 end) refl
    where
      at : (k : ℕ) → min end 19 ≡ k → k ≤ end → part l k (end - k) ≡ drop 19 (take end l) → (from ≤ end) × (part l from (end - from) ≡ drop 19 (take end l))
      at k m low rest = (omega (arith, e ∙ m, low), ap (λ (k : ℕ). part l k (end - k)) (e ∙ m) ∙ rest)

      go : (t : Bool) → leb 19 end ≡ t → (from ≤ end) × (part l from (end - from) ≡ drop 19 (take end l))
      go true t = let h = leb-true 19 end t in at 19 (min-eq_right h) h long_rest
      go false t = let h = leb-false 19 end t in let low : end ≤ 19 = omega (arith, h) in at end (min-eq_left low) (omega arith) (short_rest (omega (arith, h)))

  module _ (none : first_failed (first_tests (take end l)) ≡ 0) where
    front : take 18 (take end l) ≡ take 18 l
    front = take-take 18 end l (omega (arith, eighteen (take end l) (is_line (take end l) none), length-take end l))

    pub digits_held : all is_digit (take 18 l) ≡ true
    digits_held = ap (all is_digit) (sym front) ∙ digits_alone (take end l) (is_line (take end l) none)

    pub sizes_said : sizes_at (bytes_of (take 18 l)) 0 ≡ sizes_of (take end l)
    unfolding sizes_of sizes_bytes
    sizes_said = ap (λ (line : List ℕ). sizes_at (bytes_of line) 0) (sym front)

    pub rest-shown : (z : Sizes) (rest : List ℕ) → z ≡ sizes_at (bytes_of (take 18 l)) 0 → rest ≡ drop 19 (take end l)
        → rewritten_text z (bytes_of (take 18 l)) rest ≡ rewritten (take end l)
    unfolding sizes_bytes
    rest-shown z rest e r = rw (e ∙ sizes_said, sym front, r) (behind_first (take end l) none)

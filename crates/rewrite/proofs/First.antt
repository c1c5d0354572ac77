-- The first line: its form, test by test, and its digits in capitals.
use mathlib.Core.Path.{◌≡◌, sym, ap, ◌∙◌}
use mathlib.Core.Bool.{true, false}
use mathlib.Core.List.{List, [], ◌∷◌, ◌++◌}
use Prim.Native.Nat.{ℕ, ◌+◌, ◌*◌, ◌/◌, ◌≤◌, ◌<◌}
use native.Mathlib.Omega.{arith}
use borrow.Author.Tests.{eqb-true, eq-eqb, ne_eqb, le-leb, lt-leb}
use lib.ListN.{length, take, get_or, set, length-take}
use lib.Dec.{eqb}
use lib.Seq.{length-take-le, take_all}
use Rattle.lists.specs.Lists.{all, splice, part}
use Rattle.lists.proofs.Tests.{and_left, and_right}
use Rattle.lists.proofs.Parts.{length-splice}
use Rattle.lists.proofs.Splices.{splice_one, splice_next}
use Rattle.model.specs.declared.Sizes.{Sizes}
use Rattle.model.specs.Tests.{first_failed}
use Rattle.model.specs.Sizes.{limits, flash_size}
use Rattle.model.specs.Driving.{is_digit, bytes_of, digits_of}
use Rattle.model.proofs.Digits.{bytes_length, digits_length}
use Rattle.rewrite.specs.Rewrite.{sizes_line, sizes_of, is_held, first_tests}

module _ (input : List ℕ) where
  pub too_short : length input < 18 → sizes_line input ≡ false
  unfolding sizes_line
  too_short h = rw (ne_eqb (length (take 18 input)) 18 (λ e. omega (arith, e, ap length (take_all 18 input (omega arith)))))

  module _ (long : 18 ≤ length input) where
    whole : eqb (length (take 18 input)) 18 ≡ true
    whole = eq-eqb (length (take 18 input)) 18 (length-take-le 18 input long)

    pub no_digits : all is_digit (take 18 input) ≡ false → sizes_line input ≡ false
    unfolding sizes_line
    no_digits h = rw (whole, h)

    pub ended : all is_digit (take 18 input) ≡ true → length input ≡ 18 → sizes_line input ≡ true
    unfolding sizes_line
    ended h e = rw (whole, h, le-leb (length input) 18 (omega arith))

    pub fed : all is_digit (take 18 input) ≡ true → 18 < length input → sizes_line input ≡ eqb (get_or input 18 0) 10
    unfolding sizes_line
    fed h k = rw (whole, h, lt-leb (length input) 18 k)

  module _ (h : sizes_line input ≡ true) where
    pub eighteen : 18 ≤ length input
    unfolding sizes_line
    eighteen =
        let e : length (take 18 input) ≡ 18 = eqb-true (length (take 18 input)) 18 (and_left (eqb (length (take 18 input)) 18) _ h) in
        omega (arith, length-take 18 input)

    pub digits_alone : all is_digit (take 18 input) ≡ true
    unfolding sizes_line
    digits_alone = and_left (all is_digit (take 18 input)) _ (and_right (eqb (length (take 18 input)) 18) _ h)

    -- at the sizes z, which it says
    module _ (z : Sizes) (e : z ≡ sizes_of input) where
      pub beyond_limits : limits z ≡ false → first_failed (first_tests input) ≡ 1
      unfolding first_failed first_tests
      beyond_limits l = rw (h, ap limits (sym e) ∙ l)

      pub within_room : limits z ≡ true → flash_size z ≤ 1048576 → first_failed (first_tests input) ≡ 0
      unfolding first_failed first_tests is_held
      within_room l r = rw (h, ap limits (sym e) ∙ l, sym e, le-leb (flash_size z) 1048576 r)

      pub beyond_room : limits z ≡ true → 1048576 < flash_size z → first_failed (first_tests input) ≡ 0xF1
      unfolding first_failed first_tests is_held
      beyond_room l r = rw (h, ap limits (sym e) ∙ l, sym e, lt-leb (flash_size z) 1048576 r)

  pub no_sizes : sizes_line input ≡ false → first_failed (first_tests input) ≡ 9
  unfolding first_failed first_tests
  no_sizes h = rw h

-- eighteen digits say nine bytes
pub nine : (l : List ℕ) → 18 ≤ length l → length (bytes_of (take 18 l)) ≡ 9
nine l h = bytes_length (take 18 l) ∙ ap (λ (n : ℕ). n / 2) (length-take-le 18 l h)

pub all_nine : (l : List ℕ) → 18 ≤ length l → part (bytes_of (take 18 l)) 0 9 ≡ bytes_of (take 18 l)
unfolding part
all_nine l h = take_all 9 (bytes_of (take 18 l)) (omega (arith, nine l h))

-- the digits of the bytes that 18 digits say, and a line feed, laid over the front
pub put_line : (l sizes : List ℕ) → 19 ≤ length l → length sizes ≡ 9 → set (splice l 0 (digits_of sizes)) 18 10 ≡ splice l 0 (digits_of sizes ++ (10 ∷ []))
put_line l sizes h e =
    let n : length (digits_of sizes) ≡ 18 = digits_length sizes ∙ ap (λ (k : ℕ). k * 2) e in
    let s : length (splice l 0 (digits_of sizes)) ≡ length l = length-splice l 0 (digits_of sizes) (omega arith) in
    let at : 18 ≡ 0 + length (digits_of sizes) = omega arith in
    splice_one (splice l 0 (digits_of sizes)) 18 10 (omega arith)
    ∙ ap (λ (k : ℕ). splice (splice l 0 (digits_of sizes)) k (10 ∷ [])) at
    ∙ splice_next l 0 (digits_of sizes) (10 ∷ []) (omega arith)

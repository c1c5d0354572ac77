-- A number outside a range, and the test of a character by its value.
use mathlib.Core.Path.{◌≡◌, sym, ◌∙◌}
use mathlib.Core.Bool.{true, false, ◌||◌, true≢false}
use Prim.Native.Nat.{ℕ, ◌+◌, ◌-◌, ◌*◌, ◌/◌, ◌%◌, ◌≤◌, ◌<◌}
use native.Mathlib.Omega.{arith}
use native.Mathlib.Decide.{dec_lt}
use borrow.Author.Tests.{lt-leb, lt-ltb}
use lib.Dec.{leb}
use Rattle.std.specs.Char.{is_ascii_hexdigit}
use Rattle.lists.specs.Lists.{within}
use Rattle.lists.proofs.Tests.{and_false, within-true}
use Rattle.model.specs.Driving.{digit_value, is_digit}

module _ (low high n : ℕ) where
  pub below : n < low → within low high n ≡ false
  unfolding within
  below h = rw (lt-leb low n h)

  pub above : high < n → within low high n ≡ false
  unfolding within
  above h = rw (lt-leb n high h) (and_false (leb low n))

module _ (c : ℕ) where
  -- where a character stands: a number, a capital, a small letter, or none of them
  module _ {A : Type 0}
      (number : within 48 57 c ≡ true → 48 ≤ c → c ≤ 57 → A)
      (capital : within 48 57 c ≡ false → within 65 70 c ≡ true → 65 ≤ c → c ≤ 70 → A)
      (small : within 48 57 c ≡ false → within 65 70 c ≡ false → within 97 102 c ≡ true → 97 ≤ c → c ≤ 102 → A)
      (other : within 48 57 c ≡ false → within 65 70 c ≡ false → within 97 102 c ≡ false → A) where
    behind_capitals : 70 < c → Dec (c < 97) → Dec (102 < c) → A
    behind_capitals h (yes k) m = other (above 48 57 c (omega arith)) (above 65 70 c h) (below 97 102 c k)
    behind_capitals h (no k) (yes m) = other (above 48 57 c (omega arith)) (above 65 70 c h) (above 97 102 c m)
    behind_capitals h (no k) (no m) = small (above 48 57 c (omega arith)) (above 65 70 c h) (within-true 97 102 c (omega arith) (omega arith)) (omega arith) (omega arith)

    behind_numbers : 57 < c → Dec (c < 65) → Dec (70 < c) → A
    behind_numbers h (yes k) m = other (above 48 57 c h) (below 65 70 c k) (below 97 102 c (omega arith))
    behind_numbers h (no k) (yes m) = behind_capitals m (dec_lt c 97) (dec_lt 102 c)
    behind_numbers h (no k) (no m) = capital (above 48 57 c h) (within-true 65 70 c (omega arith) (omega arith)) (omega arith) (omega arith)

    stands : Dec (c < 48) → Dec (57 < c) → A
    stands (yes h) k = other (below 48 57 c h) (below 65 70 c (omega arith)) (below 97 102 c (omega arith))
    stands (no h) (yes k) = behind_numbers k (dec_lt c 65) (dec_lt 70 c)
    stands (no h) (no k) = number (within-true 48 57 c (omega arith) (omega arith)) (omega arith) (omega arith)

  digit_test : is_digit c ≡ ((within 48 57 c || within 65 70 c) || within 97 102 c)
  unfolding is_digit digit_value
  digit_test = stands
      (λ e h k. rw e (lt-ltb (c - 48) 16 (omega arith)))
      (λ e f h k. rw (e, f) (lt-ltb (c - 55) 16 (omega arith)))
      (λ e f g h k. rw (e, f, g) (lt-ltb (c - 87) 16 (omega arith)))
      (λ e f g. rw (e, f, g))
      (dec_lt c 48) (dec_lt 57 c)

  -- std's class of such characters
  pub digit_class : is_digit c ≡ is_ascii_hexdigit c
  unfolding within
  digit_class = digit_test

  -- without a choice
  pub value_test : is_digit c ≡ true → c % 16 + c / 64 * 9 ≡ digit_value c
  unfolding is_digit digit_value
  value_test d = stands
      (λ e h k. rw e (omega arith))
      (λ e f h k. rw (e, f) (omega arith))
      (λ e f g h k. rw (e, f, g) (omega arith))
      (λ e f g. absurd (true≢false (sym d ∙ rw (e, f, g))))
      (dec_lt c 48) (dec_lt 57 c)

-- Which frames fit, by their operation, and which lines, by their length.
use mathlib.Core.Path.{◌≡◌, refl, ◌∙◌}
use mathlib.Core.Bool.{Bool, true, false, ◌&&◌}
use mathlib.Core.List.{List}
use Prim.Native.Nat.{ℕ, ◌%◌, ◌≤◌, ◌<◌}
use native.Mathlib.Omega.{arith}
use Rattle.std.proofs.Common.{◌⊎◌, inl, inr}
use borrow.Author.Tests.{ne_eqb, le-leb, lt-leb}
use lib.ListN.{length}
use lib.Dec.{eqb}
use Rattle.lists.specs.Lists.{within, every, all}
use Rattle.lists.proofs.Tests.{and_left, and_false, within-true}
use Rattle.model.specs.Driving.{is_digit, bytes_of, operation, frame_fits, line_fits}
use Rattle.digits.proofs.Values.{above}
use Rattle.frame.specs.declared.Operation.{Operation}
use Rattle.frame.specs.declared.Operation.TheVariants.{Format, Read, Write, EraseStep, Drain, Recover}
use Rattle.frame.specs.Request.{number_of, length_fits}

module _ (f : List ℕ) where
  others : 4 ≤ operation f → frame_fits f ≡ within 4 6 (operation f) && eqb (length f) 3
  unfolding frame_fits
  others h = rw (ne_eqb (operation f) 1 (λ e. omega arith), ne_eqb (operation f) 2 (λ e. omega arith), ne_eqb (operation f) 3 (λ e. omega arith))

  -- erase step, drain, recover
  bare_fits : 4 ≤ operation f → operation f ≤ 6 → frame_fits f ≡ eqb (length f) 3
  bare_fits h k = others h ∙ rw (within-true 4 6 (operation f) h k)

  pub known_fits : (o : Operation) → operation f ≡ number_of o → frame_fits f ≡ length_fits o (length f)
  unfolding frame_fits
  known_fits Format e = rw e
  known_fits Read e = rw e
  known_fits Write e = rw e
  known_fits EraseStep e = bare_fits (omega arith) (omega arith)
  known_fits Drain e = bare_fits (omega arith) (omega arith)
  known_fits Recover e = bare_fits (omega arith) (omega arith)

  pub unknown : (operation f ≡ 0) ⊎ (6 < operation f) → frame_fits f ≡ false
  unfolding frame_fits within
  unknown (inl e) = rw e
  unknown (inr h) = others (omega arith) ∙ rw (above 4 6 (operation f) h)

pub too_long : (line : List ℕ) → 512 < length line → line_fits line ≡ false
unfolding line_fits every
too_long line h = rw (lt-leb (length line) 512 h) (skip (all is_digit line) (eqb (length line % 2) 0))
  where
    skip : (s t : Bool) → s && (t && false) ≡ false
    skip s t = rw (and_false t) (and_false s)

pub short_fits : (line : List ℕ) → length line ≤ 512 → line_fits line ≡ (all is_digit line && eqb (length line % 2) 0) && frame_fits (bytes_of line)
unfolding line_fits every
short_fits line h = rw (le-leb (length line) 512 h) (grouped (all is_digit line) (eqb (length line % 2) 0) (frame_fits (bytes_of line)))
  where
    grouped : (s t u : Bool) → s && (t && (u && true)) ≡ (s && t) && u
    grouped true true true = refl
    grouped true true false = refl
    grouped true false u = refl
    grouped false t u = refl

pub fits_digits : (line : List ℕ) → line_fits line ≡ true → all is_digit line ≡ true
unfolding line_fits every
fits_digits line e = and_left (all is_digit line) _ e

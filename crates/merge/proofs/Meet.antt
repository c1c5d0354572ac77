-- Where bytes and a window meet, and what is copied there.
use mathlib.Core.Path.{◌≡◌, sym, ◌∙◌}
use mathlib.Core.List.{List}
use Prim.Native.Nat.{ℕ, ◌+◌, ◌-◌, ◌≤◌, ◌<◌, max, min}
use native.Mathlib.Omega.{arith}
use lib.ListN.{length}
use Rattle.lists.specs.Lists.{part, splice}
use Rattle.lists.proofs.Windows.{window_meets}

up_to : (at start end : ℕ) → at ≤ start → start < end → start + ((end - at) - (start - at)) ≡ end
up_to at start end h g = omega arith

module _ (whole bytes : List ℕ) (from n at start end : ℕ) (shown : from + n ≤ length whole) (fits : at + length bytes ≤ length whole)
    (first : start ≡ max from at) (last : end ≡ min (from + n) (at + length bytes)) where
  counted : (a b m : ℕ) → from + a ≡ start → at + b ≡ start → start + m ≡ end → part (splice whole at bytes) from n ≡ splice (part whole from n) a (part bytes b m)
  counted a b m p q r =
      window_meets whole from n at bytes shown fits a b m (p ∙ sym q) (omega arith) (omega arith) (λ j u v. omega arith) (λ j u v. omega arith)

  pub met : start < end → part (splice whole at bytes) from n ≡ splice (part whole from n) (start - from) (part bytes (start - at) ((end - at) - (start - at)))
  met h =
      let p : from + (start - from) ≡ start = omega arith in
      let q : at ≤ start = omega arith in
      counted (start - from) (start - at) ((end - at) - (start - at)) p (omega (arith, q)) (up_to at start end q h)

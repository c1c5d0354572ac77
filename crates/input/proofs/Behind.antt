-- A text behind what is printed.
use mathlib.Core.Path.{◌≡◌, ap, ◌∙◌}
use mathlib.Core.List.{List, ◌++◌}
use Prim.Native.Nat.{ℕ, ◌+◌, ◌-◌, ◌≤◌}
use native.Mathlib.Omega.{arith}
use lib.ListN.{length, take, drop, length-append, length-drop}
use lib.Seq.{take-append-le, take-append-add, length-take-le}

pub take_behind : (front back rest : List ℕ) (n : ℕ) → n ≤ length back → take (length front + n) (front ++ (back ++ rest)) ≡ front ++ take n back
take_behind front back rest n h = take-append-add front (back ++ rest) n ∙ ap (λ (l : List ℕ). front ++ l) (take-append-le n back rest h)

pub behind_inside : (out back rest : List ℕ) (at n : ℕ) → at ≤ length out → n ≤ length back → at + n ≤ length (take at out ++ (back ++ rest))
behind_inside out back rest at n h k =
    let e : length (take at out) ≡ at = length-take-le at out h in
    omega (arith, length-append (take at out) (back ++ rest), length-append back rest)

-- nothing stands behind a part that reaches the end
pub behind-length : (out back : List ℕ) (at : ℕ) → at ≤ length out → length (take at out ++ (back ++ drop (length out - at) (drop at out))) ≡ at + length back
behind-length out back at h =
    let rest = drop (length out - at) (drop at out) in
    omega (arith, length-append (take at out) (back ++ rest), length-append back rest, length-take-le at out h, length-drop at out, length-drop (length out - at) (drop at out))

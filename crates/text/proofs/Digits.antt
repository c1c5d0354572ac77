-- Digits of bytes, one byte after another.
use mathlib.Core.Path.{◌≡◌, sym, ap, ◌∙◌}
use mathlib.Core.List.{List, [], ◌∷◌}
use Prim.Native.Nat.{ℕ, ◌+◌, ◌*◌, ◌≤◌, ◌<◌}
use native.Mathlib.Omega.{arith}
use native.Mathlib.Numerals.{add-one}
use lib.ListN.{length, take, get_or, set}
use lib.Seq.{take-suc, length-take-le}
use Rattle.lists.specs.Lists.{splice}
use Rattle.lists.proofs.Parts.{length-splice}
use Rattle.lists.proofs.Splices.{splice_one, splice_next}
use Rattle.model.specs.Driving.{digits_of}
use Rattle.model.proofs.Digits.{digits_append, digits_length}

-- two stores are a splice of two
pub put_two : (l : List ℕ) (at a b : ℕ) → at + 2 ≤ length l → set (set l at a) (at + 1) b ≡ splice l at (a ∷ b ∷ [])
put_two l at a b h =
    let e : length (splice l at (a ∷ [])) ≡ length l = length-splice l at (a ∷ []) (omega arith) in
    rw (splice_one l at a (omega arith), splice_one (splice l at (a ∷ [])) (at + 1) b (omega arith)) (splice_next l at (a ∷ []) (b ∷ []) (omega arith))

-- one more byte
pub put_more : (l : List ℕ) (at : ℕ) (bs : List ℕ) (i : ℕ) → i < length bs → at + length bs * 2 ≤ length l
    → splice (splice l at (digits_of (take i bs))) (at + i * 2) (digits_of (get_or bs i 0 ∷ [])) ≡ splice l at (digits_of (take (i + 1) bs))
put_more l at bs i h room =
    let done = digits_of (take i bs) in
    let e : length done ≡ i * 2 = digits_length (take i bs) ∙ ap (λ (n : ℕ). n * 2) (length-take-le i bs (omega arith)) in
    ap (λ (n : ℕ). splice (splice l at done) (at + n) (digits_of (get_or bs i 0 ∷ []))) (sym e)
    ∙ splice_next l at done (digits_of (get_or bs i 0 ∷ [])) (omega arith)
    ∙ rw (add-one i, take-suc bs i 0 h, digits_append (take i bs) (get_or bs i 0 ∷ []))

-- Bytes of one line, taken from a piece one after the other.
use mathlib.Core.Path.{◌≡◌, ap, ◌∙◌}
use mathlib.Core.List.{List, [], ◌∷◌, ◌++◌, append_assoc, append-nil}
use Prim.Native.Nat.{ℕ, suc, ◌+◌, ◌-◌, ◌<◌, ◌≤◌}
use native.Mathlib.Omega.{arith}
use native.Mathlib.Numerals.{add-one}
use borrow.Author.Tests.{ne_eqb}
use lib.ListN.{length, drop, get_or, length-drop}
use lib.Seq.{take-suc, drop-cons, get_or-drop}
use Rattle.lists.specs.Lists.{part}
use Rattle.model.specs.Driving.{lines_from}
use Rattle.lines.specs.Lines.{OneLine}

module _ (piece : List ℕ) (from : ℕ) where
  pub line_begun : OneLine piece from from
  unfolding part
  line_begun line rest = let e : from - from ≡ 0 = omega arith in rw (e, append-nil line)

  module _ (end : ℕ) (low : from ≤ end) (high : end < length piece) where
    one_more : part piece from (end - from) ++ (get_or piece end 0 ∷ []) ≡ part piece from (end + 1 - from)
    unfolding part
    one_more =
        let e : end + 1 - from ≡ suc (end - from) = omega arith in
        let at : from + (end - from) ≡ end = omega arith in
        let g : get_or (drop from piece) (end - from) 0 ≡ get_or piece end 0 = get_or-drop from piece (end - from) 0 ∙ ap (λ (i : ℕ). get_or piece i 0) at in
        rw (e, take-suc (drop from piece) (end - from) 0 (omega (arith, length-drop from piece)), g)

    pub line_more : (get_or piece end 0 ≡ 10 → ⊥) → OneLine piece from end → OneLine piece from (end + 1)
    unfolding lines_from
    line_more other before line rest =
        before line rest
        ∙ rw (drop-cons piece end 0 high, ne_eqb (get_or piece end 0) 10 other, append_assoc line (part piece from (end - from)) (get_or piece end 0 ∷ []), one_more, add-one end)

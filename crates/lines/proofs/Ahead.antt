-- The line that stands next in a text.
use mathlib.Core.Path.{◌≡◌, sym, ap, ◌∙◌}
use mathlib.Core.Bool.{false}
use mathlib.Core.List.{List, [], ◌∷◌, append-nil}
use Prim.Native.Nat.{ℕ, suc, ◌+◌, ◌-◌, ◌<◌, ◌≤◌}
use native.Mathlib.Omega.{arith}
use native.Mathlib.Numerals.{add-one}
use native.Mathlib.Decide.{dec_lt}
use lib.ListN.{length, drop, get_or, drop_of_length-le}
use lib.Seq.{drop-cons}
use Rattle.lists.specs.Lists.{part, empty}
use Rattle.model.specs.Driving.{lines_from}
use Rattle.lines.specs.Lines.{OneLine}

-- a line that a line feed ends
ended : (line text : List ℕ) (end : ℕ) → end < length text → get_or text end 0 ≡ 10 → lines_from line (drop end text) ≡ line ∷ lines_from [] (drop (end + 1) text)
unfolding lines_from
ended line text end h e = rw (drop-cons text end 0 h, e, add-one end)

-- a last line without one
last : (line text : List ℕ) (end : ℕ) → length text ≤ end → empty line ≡ false → lines_from line (drop end text) ≡ line ∷ lines_from [] (drop (end + 1) text)
unfolding lines_from empty
last line text end h e = rw (drop_of_length-le text {i = end} h, drop_of_length-le text {i = end + 1} (omega arith), e)

begun : (text : List ℕ) (at end : ℕ) → at < length text → at < end → empty (part text at (end - at)) ≡ false
unfolding part empty
begun text at end some h = let n : end - at ≡ suc (end - at - 1) = omega arith in rw (drop-cons text at 0 some, n)

-- the line ahead, where `end` is its end: at the next line feed, or with the text
pub line_next : (text : List ℕ) (at end : ℕ) → at < length text → (end < length text → get_or text end 0 ≡ 10) → OneLine text at end
    → lines_from [] (drop at text) ≡ part text at (end - at) ∷ lines_from [] (drop (end + 1) text)
line_next text at end some fed one =
    ap (lines_from []) (sym (append-nil (drop at text)))
    ∙ one [] []
    ∙ ap (lines_from line) (append-nil (drop end text))
    ∙ go (dec_lt end (length text))
  where
    line : List ℕ
    line = part text at (end - at)

    go : Dec (end < length text) → lines_from line (drop end text) ≡ line ∷ lines_from [] (drop (end + 1) text)
    go (yes h) = ended line text end h (fed h)
    go (no h) = last line text end (omega arith) (begun text at end some (omega arith))

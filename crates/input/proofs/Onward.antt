-- Each step forward leaves the whole output as it was to be.
use mathlib.Core.Path.{◌≡◌, sym, ap, ◌∙◌}
use mathlib.Core.List.{List, [], ◌∷◌, ◌++◌, append_assoc}
use Prim.Native.Nat.{ℕ, ◌+◌, ◌-◌, ◌<◌, ◌≤◌}
use native.Mathlib.Numerals.{add-one}
use lib.ListN.{length, take, drop, get_or}
use lib.Seq.{drop-cons, length-take-le}
use Rattle.lists.specs.Lists.{part}
use Rattle.model.specs.Driving.{Recorder, Printed, on_line, lines_from, on_lines}
use Rattle.drive.specs.declared.Printed.{Printed as PrintedStruct}
use Rattle.drive.specs.Recorder.{recorder_of, printed_of}
use Rattle.input.specs.declared.Walk.{Walk}
use Rattle.lines.specs.Lines.{OneLine}
use Rattle.input.proofs.Cut.{cut_lines}
use Rattle.input.proofs.Behind.{take_behind}

-- the recorder, and what is printed and not yet written
abbrev pub shown_of : Walk → (flash spare disk out : List ℕ) → Printed
shown_of w flash spare disk out = record { recorder = recorder_of w.recorder flash spare disk; text = take w.printed out }

-- the same after a further line
unfoldable pub line_shown : Printed → List ℕ → Printed
line_shown p line = let q = on_line p.recorder line in record { recorder = q.recorder; text = p.text ++ q.text }

-- a line's text behind what is printed
pub line_shown_lem : (w : Walk) (p : PrintedStruct) (line flash spare disk flash' spare' disk' out back rest : List ℕ)
    → printed_of p flash' spare' disk' back ≡ on_line (recorder_of w.recorder flash spare disk) line → p.length ≤ length back → w.printed ≤ length out
    → ◌≡◌ {A = Printed} (record { recorder = recorder_of p.recorder flash' spare' disk'; text = take (w.printed + p.length) (take w.printed out ++ (back ++ rest)) })
    (line_shown (shown_of w flash spare disk out) line)
unfolding line_shown
line_shown_lem w p line flash spare disk flash' spare' disk' out back rest e h k =
    let front : length (take w.printed out) ≡ w.printed = length-take-le w.printed out k in
    let t : take (w.printed + p.length) (take w.printed out ++ (back ++ rest)) ≡ take w.printed out ++ take p.length back =
    rw front at (take_behind (take w.printed out) back rest p.length h) in
    rw (← e, t)

module _ (piece : List ℕ) (from end : ℕ) (one : OneLine piece from end) (before held : List ℕ) (gathered : held ≡ take 513 (before ++ part piece from (end - from))) (rest : List ℕ) where
  -- a piece that ends within a line
  pub line_held : (r : Recorder) → on_lines r (lines_from held (drop end piece ++ rest)) ≡ on_lines r (lines_from before (drop from piece ++ rest))
  line_held r =
      ap (λ (l : List ℕ). on_lines r (lines_from l (drop end piece ++ rest))) gathered
      ∙ (cut_lines r (before ++ part piece from (end - from)) (drop end piece ++ rest) ∙ sym (ap (on_lines r) (one before rest)))

  -- a line that is whole
  pub line_walked : (p q : Printed) → q ≡ line_shown p held → end < length piece → get_or piece end 0 ≡ 10
      → q.text ++ on_lines q.recorder (lines_from [] (drop (end + 1) piece ++ rest)) ≡ p.text ++ on_lines p.recorder (lines_from before (drop from piece ++ rest))
  unfolding line_shown lines_from on_lines
  line_walked p q e h feed =
      let ends : drop end piece ++ rest ≡ 10 ∷ (drop (end + 1) piece ++ rest) = rw (drop-cons piece end 0 h, feed, add-one end) in
      let o = on_line p.recorder held in
      ap (λ (s : Printed). s.text ++ on_lines s.recorder (lines_from [] (drop (end + 1) piece ++ rest))) e
      ∙ (append_assoc p.text o.text (on_lines o.recorder (lines_from [] (drop (end + 1) piece ++ rest)))
      ∙ (ap (λ (l : List ℕ). p.text ++ on_lines p.recorder (lines_from held l)) (sym ends) ∙ ap (λ (t : List ℕ). p.text ++ t) (line_held p.recorder)))

-- The end of the input: the line feed that the last line may lack changes nothing of the output, and behind it nothing is held.
use mathlib.Core.Path.{◌≡◌, refl, sym, ap, ◌∙◌}
use mathlib.Core.List.{List, [], ◌∷◌, ◌++◌, append-nil}
use Prim.Native.Nat.{ℕ, zero, suc, ◌+◌, ◌<◌}
use native.Mathlib.Omega.{arith}
use lib.ListN.{length, take, length-append}
use Rattle.lists.specs.Lists.{empty, every, all, within}
use Rattle.model.specs.Driving.{Recorder, line_fits, frame_fits, bytes_of, operation, digits_of, digit, shown, no_call, on_line, lines_from, on_lines}
use Rattle.drive.proofs.Ways.{bad_line}
use Rattle.drive.specs.Recorder.{recorder_of}
use Rattle.input.specs.declared.Walk.{Walk}
use Rattle.input.specs.Ahead.{ahead, closer}
use Rattle.input.specs.Ways.{Way, Walked, Closed}

-- an empty line is F0
empty_line : (r : Recorder) → 0 < length (on_line r []).text
unfolding line_fits frame_fits bytes_of operation every all within no_call shown digits_of digit
empty_line r = rw (bad_line r [] refl) (omega arith)

-- a further line feed closes an empty line
one_more : (r : Recorder) (held : List ℕ) → length (on_lines r (lines_from held (10 ∷ []))) < length (on_lines r (lines_from held (10 ∷ 10 ∷ [])))
unfolding lines_from on_lines empty
one_more r held = let p = on_line r held in
    rw (append-nil p.text, append-nil (on_line p.recorder []).text) (omega (arith, length-append p.text (on_line p.recorder []).text, empty_line p.recorder))

-- what closes a held line, and nothing where none is held
pub closer_of : (held : ℕ) → (held ≡ 0 → ⊥) → 10 ∷ [] ≡ closer held
unfolding closer
closer_of zero h = absurd (h refl)
closer_of (suc held) h = refl

-- behind the end a further line feed closes an empty line, so the output has more characters with it
longer : (r : Recorder) (held : ℕ) (line : List ℕ) → length line ≡ 513
    → length (on_lines r (lines_from (take held line) (closer held))) < length (on_lines r (lines_from (take held line) (closer held ++ (10 ∷ []))))
unfolding closer lines_from on_lines empty
longer r zero line l = rw (append-nil (on_line r []).text) (empty_line r)
longer r (suc held) line l = one_more r (take (suc held) line)

lines_alike : (held : ℕ) (line : List ℕ) → length line ≡ 513 → lines_from (take held line) (closer held) ≡ lines_from (take held line) []
unfolding closer lines_from empty
lines_alike zero line h = refl
lines_alike (suc held) [] h = absurd (omega (arith, h))
lines_alike (suc held) (x ∷ line) h = refl

-- where a further line feed makes the output longer no line is held
none_held : (r : Recorder) (held : List ℕ) → length (on_lines r (lines_from held [])) < length (on_lines r (lines_from held (10 ∷ []))) → on_lines r (lines_from held []) ≡ []
unfolding lines_from on_lines empty
none_held r [] h = refl
none_held r (x ∷ held) h = absurd (omega (arith, h))

lengths : (text front x front' y : List ℕ) → text ++ (front ++ x) ≡ front' ++ y → length text + (length front + length x) ≡ length front' + length y
lengths text front x front' y e = omega (arith, length-append text (front ++ x), length-append front x, length-append front' y, ap length e)

module _ (w : Walk) (line flash spare disk out : List ℕ) (room : length line ≡ 513) where
  closed_alike : ahead w line flash spare disk out (closer w.held) ≡ ahead w line flash spare disk out []
  unfolding ahead
  closed_alike = ap (λ (m : List (List ℕ)). take w.printed out ++ on_lines (recorder_of w.recorder flash spare disk) m) (lines_alike w.held line room)

  nothing_held : (v : Walk) (line' flash' spare' disk' out' text : List ℕ) → Way (ahead w line flash spare disk out) (closer w.held) text (ahead v line' flash' spare' disk' out')
      → v.printed ≡ 0 → ahead v line' flash' spare' disk' out' [] ≡ []
  unfolding ahead
  nothing_held v line' flash' spare' disk' out' text way e =
      let r = recorder_of w.recorder flash spare disk in
      let r' = recorder_of v.recorder flash' spare' disk' in
      let held = take w.held line in
      let held' = take v.held line' in
      let end = closer w.held in
      let short = lengths text (take v.printed out') (on_lines r' (lines_from held' [])) (take w.printed out) (on_lines r (lines_from held end)) (way [] ∙ rw (append-nil end)) in
      let long = lengths text (take v.printed out') (on_lines r' (lines_from held' (10 ∷ []))) (take w.printed out) (on_lines r (lines_from held (end ++ (10 ∷ [])))) (way (10 ∷ [])) in
      rw e (none_held r' held' (omega (arith, short, long, longer r w.held line room)))

  -- the last line is written, and behind it nothing is held
  pub closed_up : (v : Walk) (line' flash' spare' disk' out' : List ℕ) (written : ℕ) → v.printed ≡ 0
      → Walked (ahead w line flash spare disk out) (closer w.held) written (ahead v line' flash' spare' disk' out')
      → Closed (ahead w line flash spare disk out) written (ahead v line' flash' spare' disk' out')
  closed_up v line' flash' spare' disk' out' written e last =
      let none = nothing_held v line' flash' spare' disk' out' last.text last.way e in
      let all : last.text ≡ ahead w line flash spare disk out [] =
      sym (append-nil last.text) ∙ (ap (λ (t : List ℕ). last.text ++ t) (sym none) ∙ (last.way [] ∙ (ap (ahead w line flash spare disk out) (append-nil (closer w.held)) ∙ closed_alike))) in
      record { counted = ap length (sym all) ∙ last.counted; nothing = none }

-- How far the program has come with its input.
use Rattle.std.specs.Prelude.{ℕ, zero, suc, ◌≤◌, ◌≡◌, List, [], ◌∷◌, ◌++◌, length, take}
use Rattle.model.specs.Driving.{lines_from, on_lines}
use Rattle.calls.specs.Arrays.{Arrays, most_read}
use Rattle.drive.specs.Recorder.{recorder_of, Ready}
use Rattle.input.specs.declared.Walk.{Walk}

-- the bytes that are held of a line: one more than the longest that is no F0
abbrev pub line_room : ℕ
line_room = 513

-- the whole output from here on, what is printed and not yet written first, if the rest of the input is this
unfoldable pub ahead : Walk → (line flash spare disk out rest : List ℕ) → List ℕ
ahead w line flash spare disk out rest = take w.printed out ++ on_lines (recorder_of w.recorder flash spare disk) (lines_from (take w.held line) rest)

-- what stands for the rest of the input at its end: the line feed that a held line lacks
unfoldable pub closer : (held : ℕ) → List ℕ
closer zero = []
closer (suc held) = 10 ∷ []

-- what holds from step to step
pub record Sound (w : Walk) (line buffer flash spare disk out : List ℕ) : Type 0 where
  pub ready : Ready w.recorder.formatted w.recorder.sizes
  pub arrays : Arrays flash spare disk
  pub line_room_lem : length line ≡ line_room
  pub held_room : w.held ≤ line_room
  pub buffer_room : most_read ≤ length buffer
  pub printed_room : w.printed ≤ length out

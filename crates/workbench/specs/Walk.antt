-- What holds from line to line.
use Rattle.std.specs.Prelude.{ℕ, ◌≤◌, ◌≡◌, List, length}
use Rattle.calls.specs.Arrays.{Arrays}
use Rattle.drive.specs.Recorder.{Ready}
use Rattle.workbench.specs.declared.Walk.{Walk}
use Rattle.workbench.specs.Bench.{text_room}

-- the bytes that are held of a line: one more than the longest that is no F0
abbrev pub line_room : ℕ
line_room = 8193

pub record Sound (w : Walk) (line flash spare disk out : List ℕ) : Type 0 where
  pub ready : Ready w.bench.recorder.formatted w.bench.recorder.sizes
  pub arrays : Arrays flash spare disk
  pub line_room_lem : length line ≡ line_room
  pub held_room : w.held ≤ line_room
  pub out_room : length out ≡ text_room

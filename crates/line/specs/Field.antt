-- Fields of a frame, and a walk from one to the next.
use Rattle.std.specs.Prelude.{ℕ, ◌+◌, List, get_or, eqb, if◌then◌else◌}
use Rattle.std.specs.Borrow.{Bor}
use Rattle.model.specs.Spare.{two}
use Rattle.model.specs.Driving.{bytes_of}
use Rattle.line.specs.declared.Line.{Line}

-- a byte, or else a two-byte number
unfoldable pub field_at : List ℕ → (at width : ℕ) → ℕ
field_at f at width = if eqb width 1 then get_or f at 0 else two f at

-- before the first field
abbrev pub at_start : Bor (List ℕ) → Line
at_start text = record { text = text; at = 0; field = 0 }

-- behind the next field
abbrev pub behind : Line → ℕ → Line
behind line width = record { text = line.text; at = line.at + width; field = field_at (bytes_of line.text.now) line.at width }

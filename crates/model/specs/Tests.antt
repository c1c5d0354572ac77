-- Tests in the order of the table, and the number of the first that fails.
use Rattle.std.specs.Prelude.{ℕ, Bool, List, [], ◌∷◌, Result, Ok, Err, if◌then◌else◌}
use Rattle.model.specs.declared.Refusal.{Refusal}
use Rattle.model.specs.declared.Refusal.TheVariants.{Limits, Lengths, NotRunning, Image, State, Place, Range, Epochs, Line, Twice, NoFrame, NoRoom}

-- a number of the table, and what must hold
abbrev pub Test : Type 0
Test = ℕ × Bool

-- the number of the first test that fails, or 0
unfoldable pub first_failed : List Test → ℕ
first_failed [] = 0
first_failed (t ∷ ts) = if t.1 then first_failed ts else t.0

-- the number of a refusal: 1 to 8 of a call, 9 and 10 of a text, F0 and F1 of a line that makes no call
abbrev pub number_of : Refusal → ℕ
number_of Limits = 1
number_of Lengths = 2
number_of NotRunning = 3
number_of Image = 4
number_of State = 5
number_of Place = 6
number_of Range = 7
number_of Epochs = 8
number_of Line = 9
number_of Twice = 10
number_of NoFrame = 0xF0
number_of NoRoom = 0xF1

-- the number of what a check found, 0 where it passed
abbrev pub number : Result (Unit {0}) Refusal → ℕ
number (Ok passed) = 0
number (Err refusal) = number_of refusal

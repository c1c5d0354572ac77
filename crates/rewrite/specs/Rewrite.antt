-- The rewriting program: the bytes of its input to the bytes of its output.
use Rattle.std.specs.Prelude.{ℕ, ◌+◌, ◌≡◌, Bool, ◌&&◌, ◌||◌, List, [], ◌∷◌, ◌++◌, length, take, drop, get_or, leb, eqb, if◌then◌else◌}
use Rattle.lists.specs.Lists.{all}
use Rattle.model.specs.declared.Sizes.{Sizes}
use Rattle.model.specs.Tests.{Test, first_failed}
use Rattle.model.specs.Sizes.{Device, limits, flash_size}
use Rattle.model.specs.Driving.{is_digit, bytes_of, digits_of, sizes_at, lines_of, shown}
use Rattle.model.specs.Mail.{text_fault, image_of, text_of}
use Rattle.receive.specs.Given.{sound_lines}

-- the sizes stand in the first line: 18 digits, and a line feed or the end of the input
unfoldable pub sizes_line : List ℕ → Bool
sizes_line input = eqb (length (take 18 input)) 18 && (all is_digit (take 18 input) && (leb (length input) 18 || eqb (get_or input 18 0) 10))

unfoldable pub sizes_bytes : List ℕ → List ℕ
sizes_bytes input = bytes_of (take 18 input)

unfoldable pub sizes_of : List ℕ → Sizes
sizes_of input = sizes_at (sizes_bytes input) 0

-- the program's data buffer is 1,048,576 bytes
unfoldable pub is_held : Sizes → Bool
is_held z = leb (flash_size z) 1048576

-- what the first line is turned down for: its form, number 1, and sizes beyond the buffer
unfoldable pub first_tests : List ℕ → List Test
first_tests input = (9, sizes_line input) ∷ (1, limits (sizes_of input)) ∷ (0xF1, is_held (sizes_of input)) ∷ []

-- no chip: an image that is read takes nothing over from it
abbrev pub no_chip : Device
no_chip = record { flash = []; spare = []; disk = [] }

-- the text behind the first line, read and written again at the sizes z; or the number and the line of the first fault
unfoldable pub rewritten_text : Sizes → (sizes text : List ℕ) → List ℕ
rewritten_text z sizes text =
    if eqb (text_fault z text) 0
    then digits_of sizes ++ (10 ∷ text_of z (image_of z no_chip text))
    else shown (text_fault z text) (2 + sound_lines z [] (lines_of text)) []

unfoldable pub rewritten : List ℕ → List ℕ
rewritten input =
    let n = first_failed (first_tests input) in
    if eqb n 0 then rewritten_text (sizes_of input) (sizes_bytes input) (drop 19 input) else shown n 1 []

-- what stands beyond the program's buffer cannot change its output
unfoldable pub LongInput : Type 0
LongInput = (input : List ℕ) → rewritten (take 2738234 input) ≡ rewritten input

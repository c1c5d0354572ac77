-- The first faulty line of a text, by marks for the pages given before it.
use Rattle.std.specs.Prelude.{ℕ, zero, suc, Bool, false, ◌<◌, ◌≡◌, List, [], ◌∷◌, length, get_or, eqb, Result, Ok, Err, if◌then◌else◌}
use Rattle.lists.specs.Lists.{member}
use Rattle.model.specs.declared.Sizes.{Sizes}
use Rattle.model.specs.declared.Answer.{Answer}
use Rattle.model.specs.Tests.{first_failed, number_of}
use Rattle.model.specs.Sizes.{Device}
use Rattle.model.specs.Mail.{TextRead, place_of, line_tests}
use Rattle.receive.specs.declared.Fault.{Fault}

-- a page is marked if it was given
abbrev pub Marks : (marks : List Bool) (given : List ℕ) → Type 0
Marks marks given = (g : ℕ) → g < length marks → get_or marks g false ≡ member g given

-- how many lines stand before the first faulty one
unfoldable pub sound_lines : Sizes → (given : List ℕ) → List (List ℕ) → ℕ
sound_lines z given [] = zero
sound_lines z given (l ∷ ls) = if eqb (first_failed (line_tests z given l)) 0 then suc (sound_lines z (place_of z l ∷ given) ls) else zero

-- what a look at a text's lines found: the number of the first fault, 0 where there is none, and how many lines stand before it
abbrev pub fault_number : Result ℕ Fault → ℕ
fault_number (Ok lines) = 0
fault_number (Err fault) = number_of fault.refusal

abbrev pub lines_before : Result ℕ Fault → ℕ
lines_before (Ok lines) = lines
lines_before (Err fault) = fault.before

abbrev pub text_read : Answer → Device → TextRead
text_read a d = record { answer = a; device = d }

-- The writer's struct and buffer as the definitions hand them back.
use Rattle.std.specs.Prelude.{ℕ, ◌+◌, ◌*◌, List}
use Rattle.model.specs.declared.Sizes.{Sizes}
use Rattle.model.specs.Mail.{TextWritten}
use Rattle.send.specs.declared.Written.{Written}

abbrev pub text_written : Written → (buffer : List ℕ) → TextWritten
text_written w buffer = record { answer = w.answer; length = w.length; buffer = buffer }

-- the characters of a page's line: two digits a byte, and the line feed
abbrev pub line_length : Sizes → ℕ
line_length z = (19 + z.s) * 2 + 1

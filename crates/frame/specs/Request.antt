-- What a line asks for.
use Rattle.std.specs.Prelude.{ℕ, Bool, true, false, List, length, drop, eqb, leb, if◌then◌else◌, Option, Some, None}
use Rattle.model.specs.Spare.{two}
use Rattle.model.specs.Driving.{bytes_of, operation, allowance, format_sizes, line_fits}
use Rattle.frame.specs.declared.Operation.{Operation}
use Rattle.frame.specs.declared.Operation.TheVariants as kind
use Rattle.frame.specs.declared.Request.{Request}
use Rattle.frame.specs.declared.Request.TheVariants.{Format, Read, Write, Erase, Drain, Recover}

-- the byte that stands for an operation
abbrev pub number_of : Operation → ℕ
number_of kind.Format = 1
number_of kind.Read = 2
number_of kind.Write = 3
number_of kind.EraseStep = 4
number_of kind.Drain = 5
number_of kind.Recover = 6

-- whether its frame may have so many bytes
abbrev pub length_fits : Operation → (bytes : ℕ) → Bool
length_fits kind.Format n = eqb n 12
length_fits kind.Read n = eqb n 9
length_fits kind.Write n = leb 7 n
length_fits kind.EraseStep n = eqb n 3
length_fits kind.Drain n = eqb n 3
length_fits kind.Recover n = eqb n 3

-- The requests of frames with fields, at the allowance n. The data of a write are what is left behind its fields.

unfoldable pub format_from : ℕ → List ℕ → Request
format_from n f = Format n (format_sizes f)

unfoldable pub read_from : ℕ → List ℕ → Request
read_from n f = Read n (two f 3) (two f 5) (two f 7)

unfoldable pub write_from : ℕ → List ℕ → Request
write_from n f = Write n (two f 3) (two f 5) (record { at = 7; length = length (drop 7 f) })

-- those of frames without
unfoldable pub bare_from : (operation n : ℕ) → Request
bare_from o n = if eqb o 4 then Erase n else (if eqb o 5 then Drain n else Recover n)

-- the request of a frame that fits
unfoldable pub frame_request : List ℕ → Request
frame_request f =
    if eqb (operation f) 1 then format_from (allowance f) f
    else (if eqb (operation f) 2 then read_from (allowance f) f
    else (if eqb (operation f) 3 then write_from (allowance f) f else bare_from (operation f) (allowance f)))

-- a line's, if it fits
unfoldable pub request_of : List ℕ → Option Request
request_of line = if line_fits line then Some (frame_request (bytes_of line)) else None

unfoldable pub is_format : Request → Bool
is_format (Format n sizes) = true
is_format (Read n b off len) = false
is_format (Write n b off placed) = false
is_format (Erase n) = false
is_format (Drain n) = false
is_format (Recover n) = false

-- What becomes of a line by its request, before any call.
use Rattle.std.specs.Prelude.{ℕ, Bool, not, if◌then◌else◌}
use Rattle.model.specs.declared.Sizes.{Sizes}
use Rattle.model.specs.Sizes.{limits}
use Rattle.model.specs.Driving.{too_large}
use Rattle.frame.specs.declared.Request.{Request}
use Rattle.frame.specs.declared.Request.TheVariants.{Format, Read, Write, Erase, Drain, Recover}

-- what is printed of a format that makes no call, or 0
unfoldable pub format_unmade : Sizes → ℕ
format_unmade z = if not (limits z) then 1 else (if too_large z then 0xF1 else 0)

-- what is printed of a line that fits and makes no call, or 0
unfoldable pub unmade : (formatted : Bool) → Request → ℕ
unmade t (Format n z) = format_unmade z
unmade t (Read n b off len) = if t then 0 else 3
unmade t (Write n b off placed) = if t then 0 else 3
unmade t (Erase n) = if t then 0 else 3
unmade t (Drain n) = if t then 0 else 3
unmade t (Recover n) = if t then 0 else 3

-- the sizes at which a line makes its call
unfoldable pub sizes_asked : Request → Sizes → Sizes
sizes_asked (Format n z) kept = z
sizes_asked (Read n b off len) kept = kept
sizes_asked (Write n b off placed) kept = kept
sizes_asked (Erase n) kept = kept
sizes_asked (Drain n) kept = kept
sizes_asked (Recover n) kept = kept

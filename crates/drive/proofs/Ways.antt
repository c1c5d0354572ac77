-- The ways that a line may go, and that each keeps the recorder ready.
use mathlib.Core.Path.{◌≡◌}
use mathlib.Core.Bool.{true, false}
use mathlib.Core.List.{List}
use Prim.Native.Nat.{ℕ}
use lib.Dec.{eqb}
use Rattle.model.specs.Sizes.{limits}
use Rattle.model.specs.Driving.{Recorder, bytes_of, operation, format_sizes, line_fits, call_of, too_large, no_call, format_line, call_line, on_line}
use Rattle.drive.specs.Recorder.{called_line}

module _ (r : Recorder) where
  module _ (line : List ℕ) where
    pub bad_line : line_fits line ≡ false → on_line r line ≡ no_call 0xF0 r
    unfolding on_line
    bad_line e = rw e

    pub format_asked : line_fits line ≡ true → eqb (operation (bytes_of line)) 1 ≡ true → on_line r line ≡ format_line r (bytes_of line)
    unfolding on_line
    format_asked e o = rw (e, o)

    pub call_asked : line_fits line ≡ true → eqb (operation (bytes_of line)) 1 ≡ false → on_line r line ≡ call_line r (bytes_of line)
    unfolding on_line
    call_asked e o = rw (e, o)

  module _ (f : List ℕ) where
    pub limits_broken : limits (format_sizes f) ≡ false → format_line r f ≡ no_call 1 r
    unfolding format_line
    limits_broken l = rw l

    pub beyond_arrays : limits (format_sizes f) ≡ true → too_large (format_sizes f) ≡ true → format_line r f ≡ no_call 0xF1 r
    unfolding format_line
    beyond_arrays l t = rw (l, t)

    pub format_called : operation f ≡ 1 → limits (format_sizes f) ≡ true → too_large (format_sizes f) ≡ false → format_line r f ≡ called_line (format_sizes f) true r f
    unfolding format_line called_line call_of
    format_called o l t = rw (l, t, o)

    pub unformatted : r.formatted ≡ false → call_line r f ≡ no_call 3 r
    unfolding call_line
    unformatted e = rw e

    pub call_called : r.formatted ≡ true → call_line r f ≡ called_line r.sizes false r f
    unfolding call_line called_line
    call_called e = rw e

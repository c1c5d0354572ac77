-- A line keeps the recorder ready.
use mathlib.Core.Path.{◌≡◌, refl}
use mathlib.Core.Bool.{Bool, true, false, ◌||◌}
use mathlib.Core.List.{List}
use Prim.Native.Nat.{ℕ}
use lib.Dec.{eqb}
use Rattle.std.specs.Prelude.{if◌then◌else◌}
use Rattle.model.specs.declared.Sizes.{Sizes}
use Rattle.model.specs.Sizes.{limits}
use Rattle.model.specs.Calls.{Outcome}
use Rattle.model.specs.Driving.{Recorder, Printed, bytes_of, operation, format_sizes, line_fits, too_large, settled, no_call, format_line, call_line, on_line}
use Rattle.calls.specs.Arrays.{Held}
use Rattle.drive.specs.Recorder.{Ready}
use Rattle.drive.proofs.Held.{held_sizes}
use Rattle.drive.proofs.Ways.{bad_line, format_asked, call_asked, limits_broken, beyond_arrays, unformatted}

-- a call at sizes that have room, which may be kept
pub settled_held : (t formats : Bool) (kept z : Sizes) → Ready t kept → Held z → Ready (t || formats) (if formats then z else kept)
settled_held t true kept z ready held e = held
settled_held true false kept z ready held e = ready refl
settled_held false false kept z ready held e = ready e

abbrev After : Printed → Type 0
After p = Ready p.recorder.formatted p.recorder.sizes

module _ (r : Recorder) (ready : Ready r.formatted r.sizes) where
  uncalled : (answer : ℕ) → After (no_call answer r)
  unfolding no_call
  uncalled answer = ready

  settled_ready : (z : Sizes) (o : Outcome) (formats : Bool) → Held z → Ready (settled z r o formats).formatted (settled z r o formats).sizes
  unfolding settled
  settled_ready z o formats held = settled_held r.formatted formats r.sizes z ready held

  format_ready : (f : List ℕ) → After (format_line r f)
  unfolding format_line
  format_ready f = go (limits (format_sizes f)) refl (too_large (format_sizes f)) refl
    where
      go : (l : Bool) → limits (format_sizes f) ≡ l → (t : Bool) → too_large (format_sizes f) ≡ t → After (format_line r f)
      go false e t g = rw (limits_broken r f e) (uncalled 1)
      go true e true g = rw (beyond_arrays r f e g) (uncalled 0xF1)
      go true e false g = rw (e, g) (settled_ready (format_sizes f) _ _ (held_sizes (format_sizes f) e g))

  call_ready : (f : List ℕ) → After (call_line r f)
  unfolding call_line settled
  call_ready f = go r.formatted refl
    where
      go : (t : Bool) → r.formatted ≡ t → After (call_line r f)
      go true e = rw e (λ _. ready e)
      go false e = rw (unformatted r f e) (uncalled 3)

  line_ready : (line : List ℕ) → After (on_line r line)
  line_ready line = go (line_fits line) refl (eqb (operation (bytes_of line)) 1) refl
    where
      go : (l : Bool) → line_fits line ≡ l → (t : Bool) → eqb (operation (bytes_of line)) 1 ≡ t → After (on_line r line)
      go false e t g = rw (bad_line r line e) (uncalled 0xF0)
      go true e true g = rw (format_asked r line e g) (format_ready (bytes_of line))
      go true e false g = rw (call_asked r line e g) (call_ready (bytes_of line))

  pub kept_ready : (line : List ℕ) {p : Printed} → p ≡ on_line r line → Ready p.recorder.formatted p.recorder.sizes
  kept_ready line e = rw e (line_ready line)

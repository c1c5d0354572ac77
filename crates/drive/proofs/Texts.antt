-- What is printed of an outcome.
use mathlib.Core.Path.{◌≡◌, refl}
use mathlib.Core.List.{List, [], ◌++◌}
use Prim.Native.Nat.{ℕ, ◌≤◌}
use native.Mathlib.Omega.{arith}
use lib.ListN.{length, take, length-append}
use lib.Seq.{take_at}
use Rattle.std.specs.Prelude.{if◌then◌else◌}
use Rattle.model.specs.declared.Answer.{Answer}
use Rattle.model.specs.declared.Answer.TheVariants.{Done, Idle, Cut, Refused}
use Rattle.model.specs.Sizes.{Device}
use Rattle.model.specs.State.{State}
use Rattle.model.specs.Calls.{is_done}
use Rattle.model.specs.Driving.{shown, printed, no_call}
use Rattle.drive.specs.declared.Recorder.{Recorder as RecorderStruct}
use Rattle.drive.specs.declared.Printed.{Printed as PrintedStruct}
use Rattle.drive.specs.Recorder.{recorder_of, printed_of}

-- a text laid over the start of the output
pub at_start_lem : (text rest : List ℕ) {out : List ℕ} {n : ℕ} → (n ≡ length text) × (out ≡ text ++ rest) → (take n out ≡ text) × (n ≤ length out)
at_start_lem text rest e = rw (e.1, e.0) (take_at text rest (length text) refl, omega (arith, length-append text rest))

-- it has nothing of the state and the device
pub printed_alike : (a : Answer) (n : ℕ) (bytes : List ℕ) (s t : State) (d e : Device)
    → printed (record { answer = a; stores = n; state = s; device = d; buffer = bytes }) ≡ printed (record { answer = a; stores = n; state = t; device = e; buffer = bytes })
unfolding printed
printed_alike Done n bytes s t d e = refl
printed_alike Idle n bytes s t d e = refl
printed_alike Cut n bytes s t d e = refl
printed_alike (Refused r) n bytes s t d e = refl

-- it has nothing of the bytes lent either, unless the answer is Done
pub printed-seen : (a : Answer) (n : ℕ) (bytes : List ℕ) (s : State) (d : Device)
    → printed (record { answer = a; stores = n; state = s; device = d; buffer = bytes }) ≡ printed (record { answer = a; stores = n; state = s; device = d; buffer = if is_done a then bytes else [] })
unfolding printed is_done
printed-seen Done n bytes s d = refl
printed-seen Idle n bytes s d = refl
printed-seen Cut n bytes s d = refl
printed-seen (Refused r) n bytes s d = refl

-- a line that makes no call
pub no_call_line : (answer : ℕ) (r : RecorderStruct) (p : PrintedStruct) (flash spare disk out : List ℕ) → (p.recorder ≡ r) × (take p.length out ≡ shown answer 0 [])
    → printed_of p flash spare disk out ≡ no_call answer (recorder_of r flash spare disk)
unfolding no_call
no_call_line answer r p flash spare disk out e = rw (e.0, e.1)

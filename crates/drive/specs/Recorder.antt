-- The structs that a line is given and hands back, seen with the program's arrays as document 01's recorder.
use Rattle.std.specs.Prelude.{ℕ, ◌≤◌, ◌≡◌, Bool, true, false, ◌&&◌, ◌||◌, List, length, take, if◌then◌else◌}
use Rattle.model.specs.declared.Sizes.{Sizes}
use Rattle.model.specs.State.{unformatted}
use Rattle.model.specs.Calls.{Outcome, is_done, call}
use Rattle.model.specs.Driving.{Recorder, Printed, allowance, call_of, lend, settled, printed}
use Rattle.geometry.specs.Geometry.{device}
use Rattle.state.specs.declared.State.{State as Struct}
use Rattle.state.specs.View.{view_of, state_of}
use Rattle.outcome.specs.Handed.{Handed}
use Rattle.calls.specs.Arrays.{most_read, Held}
use Rattle.drive.specs.declared.Recorder.{Recorder as RecorderStruct}
use Rattle.drive.specs.declared.Printed.{Printed as PrintedStruct}

abbrev pub recorder_of : RecorderStruct → (flash spare disk : List ℕ) → Recorder
recorder_of r flash spare disk = record { state = view_of r.state; arrays = device flash spare disk; formatted = r.formatted; sizes = r.sizes }

-- the text is what stands at the start of the lent output
abbrev pub printed_of : PrintedStruct → (flash spare disk out : List ℕ) → Printed
printed_of p flash spare disk out = record { recorder = recorder_of p.recorder flash spare disk; text = take p.length out }

-- the outcome that an entry handed back
abbrev pub outcome_of : Handed → Outcome
outcome_of h = record { answer = h.outcome.answer; stores = h.outcome.stores; state = view_of h.outcome.state; device = h.device; buffer = h.buffer }

-- no format yet
unfoldable pub fresh : RecorderStruct
fresh = record { state = state_of unformatted; formatted = false; sizes = unformatted.sizes }

-- the sizes of the last Done format, if there was one, have room in the arrays
abbrev pub Ready : (formatted : Bool) → Sizes → Type 0
Ready formatted z = formatted ≡ true → Held z

-- the longest text of a line: answer, stores and 16,384 bytes read, two digits each, and a line feed
abbrev pub longest_text : ℕ
longest_text = 32775

-- what a line is walked with beside the arrays: room for the bytes that it reads and for its text
pub record Room (buffer out : List ℕ) : Type 0 where
  pub buffer_room : most_read ≤ length buffer
  pub out_room : longest_text ≤ length out

-- the struct after a call at the sizes z
abbrev pub after : RecorderStruct → Sizes → Struct → (formats : Bool) → RecorderStruct
after r z s formats = record { state = s; formatted = r.formatted || formats; sizes = if formats then z else r.sizes }

-- a line that makes its call, at the sizes z
unfoldable pub called_line : Sizes → (format : Bool) → Recorder → List ℕ → Printed
called_line z format r f =
    let o = call (allowance f) (call_of z f) r.state (lend z r.arrays) in
    record { recorder = settled z r o (format && is_done o.answer); text = printed o }

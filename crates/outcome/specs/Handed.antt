-- The structs that an entry hands back, by the outcome that the definitions give the call.
use Rattle.std.specs.Prelude.{ℕ, ◌-◌, List, if◌then◌else◌}
use Rattle.model.specs.declared.Answer.{Answer}
use Rattle.model.specs.declared.Answer.TheVariants.{Done, Idle, Cut, Refused}
use Rattle.model.specs.Sizes.{Device}
use Rattle.model.specs.State.{State}
use Rattle.model.specs.Calls.{Outcome}
use Rattle.meter.specs.declared.Meter.{Meter}
use Rattle.state.specs.declared.State.{State as Struct}
use Rattle.state.specs.View.{state_of, halted}
use Rattle.outcome.specs.declared.Outcome.{Outcome as OutcomeStruct}

-- the struct handed back, and the lent areas as the call leaves them
pub record Handed : Type 0 where
  pub outcome : OutcomeStruct
  pub device : Device
  pub buffer : List ℕ

abbrev pub handed_back : Device → (buffer : List ℕ) → OutcomeStruct → Handed
handed_back d buffer r = record { outcome = r; device = d; buffer = buffer }

-- the state's struct: the new state's own with Done and Idle, the one that came in, not running, with Cut, and as it came with a refusal
unfoldable pub given_back : Struct → Answer → State → Struct
given_back s Done new = state_of new
given_back s Idle new = state_of new
given_back s Cut new = halted s
given_back s (Refused n) new = s

-- what is handed back to a caller who gave the struct s
unfoldable pub handed : Struct → Outcome → Handed
handed s o = record {
  outcome = record { answer = o.answer; stores = o.stores; state = given_back s o.answer o.state };
  device = o.device;
  buffer = o.buffer;
}

-- after a cut run with an allowance of n, by what is left of it
abbrev pub cut_short : Meter → ℕ → Struct → OutcomeStruct
cut_short m n old = record { answer = Cut; stores = n - m.left; state = halted old }

-- after any run
unfoldable pub finished : Meter → ℕ → Answer → Struct → State → OutcomeStruct
finished m n full old new =
    if m.cut
    then cut_short m n old
    else record { answer = full; stores = n - m.left; state = state_of new }

abbrev pub turned : ℕ → Struct → OutcomeStruct
turned n s = record { answer = Refused n; stores = 0; state = s }

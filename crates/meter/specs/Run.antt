-- Stores under an allowance, one after the other.
use Rattle.std.specs.Prelude.{ℕ, ◌-◌, min, true, false, ◌||◌, List, [], ◌∷◌, ltb, eqb, if◌then◌else◌}
use Rattle.model.specs.declared.Sizes.{Sizes}
use Rattle.model.specs.declared.Answer.TheVariants.{Cut}
use Rattle.model.specs.Sizes.{Device}
use Rattle.model.specs.Stores.{Store, apply}
use Rattle.model.specs.State.{State, stopped}
use Rattle.model.specs.Steps.{Plan}
use Rattle.model.specs.Calls.{Call, Outcome, done_answer, lent_buffer, read_buffer}
use Rattle.geometry.specs.Geometry.{device}
use Rattle.meter.specs.declared.Meter.{Meter}

-- chip and disk, and the allowance, somewhere in an operation
pub record Run : Type 0 where
  pub device : Device
  pub meter : Meter

abbrev pub running : (flash spare disk : List ℕ) → Meter → Run
running f s d m = record { device = device f s d; meter = m }

-- with a whole allowance of n stores
abbrev pub fresh : Device → ℕ → Run
fresh d n = record { device = d; meter = record { left = n; cut = false } }

-- how many of n stores in a row an allowance lets be made
abbrev pub allowed : ℕ → Meter → ℕ
allowed n m = min m.left n

-- what is left of it once all n were asked for
unfoldable pub spent : ℕ → Meter → Meter
spent n m = record { left = m.left - n; cut = m.cut || ltb m.left n }

module _ (z : Sizes) where
  -- a store is made if the allowance has one left; if not, the run is cut
  unfoldable pub step : Store → Run → Run
  step s r =
      if eqb r.meter.left 0
      then record { device = r.device; meter = record { left = 0; cut = true } }
      else record { device = apply z r.device s; meter = record { left = r.meter.left - 1; cut = r.meter.cut } }

  unfoldable pub run_all : List Store → Run → Run
  run_all [] r = r
  run_all (s ∷ ss) r = run_all ss (step s r)

-- what the call k hands back, with an allowance of n, once all stores of its plan p were asked for
unfoldable pub ended : ℕ → Call → State → Device → Plan → Run → Outcome
ended n k s d p r =
    if r.meter.cut
    then record { answer = Cut; stores = n - r.meter.left; state = stopped s; device = r.device; buffer = lent_buffer k }
    else record { answer = done_answer k s; stores = n - r.meter.left; state = p.state; device = r.device; buffer = read_buffer k s d }

-- Steps carried out one after the other.
use Rattle.std.specs.Prelude.{List, ℕ}
use Rattle.model.specs.declared.Sizes.{Sizes}
use Rattle.model.specs.State.{State}
use Rattle.model.specs.Steps.{Step}
use Rattle.meter.specs.Run.{Run, run_all}
use Rattle.meter.specs.Lent.{run_of}
use Rattle.meter.specs.declared.Run as lent
use Rattle.state.specs.View.{places_of}
use Rattle.state.specs.declared.State as places

-- chip, disk, allowance and state, between two steps of an operation
pub record Progress : Type 0 where
  pub run : Run
  pub state : State

abbrev pub reached : lent.Run → places.State → Progress
reached r s = record { run = run_of r; state = places_of s }

-- once all stores of the step are asked for that it plans from the chip and disk of the run
unfoldable pub after : Sizes → Step → State → Run → Progress
after z f s r = record { run = run_all z (f s r.device).stores r; state = (f s r.device).state }

-- `drive::no_call` meets its contract.
use mathlib.Core.Path.{refl}
use Rattle.drive.proofs.Texts.{at_start_lem}
use Rattle.drive.proofs.no_call.Goals as goal

pub returns : goal.returns
returns c =
    let start = at_start_lem _ _ c.show-length.ensures in
    record { recorder_value = (refl, rw c.number.ensures at start.0); length_in_bounds = start.1 }

-- `send::is_listed` meets its contract.
use mathlib.Core.Bool.{not}
use mathlib.Core.Path.{ap}
use Rattle.send.proofs.is_listed.Goals as goal

pub returns : goal.returns
returns c = ap not c.blank_at.ensures

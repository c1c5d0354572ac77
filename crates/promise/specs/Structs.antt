-- Demand 3, of the structs that the entries are given and hand back.
use Rattle.model.specs.Calls.{Outcome}
use Rattle.model.specs.Promise.{Claim, Always, Promised}
use Rattle.state.specs.declared.State.{State as Struct}
use Rattle.state.specs.View.{view_of}
use Rattle.outcome.specs.Handed.{handed}

-- what goes into the next call: the very struct that the entry handed back, which its contract fixes
unfoldable pub handed_on : Struct → Outcome → Struct
handed_on s o = (handed s o).outcome.state

-- the claim holds of every list of calls from the struct of a Done format on
unfoldable pub AlwaysOfStructs : Claim → Type 0
AlwaysOfStructs claim = Always view_of handed_on claim

unfoldable pub NothingLostOfStructs : Type 0
NothingLostOfStructs = AlwaysOfStructs Promised

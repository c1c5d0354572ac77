-- `drive::Recorder::unformatted` meets its contract.
use Rattle.state.specs.View.{state_of}
use Rattle.drive.specs.Recorder.{fresh}
use Rattle.drive.proofs.Recorder.unformatted.Goals as goal

pub returns : goal.returns
unfolding fresh state_of
returns c = rw c.unformatted-state.ensures

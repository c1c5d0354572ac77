-- `input::start` meets its contract.
use mathlib.Core.Bool.{true≢false}
use mathlib.Core.Path.{refl, sym}
use Rattle.model.specs.State.{unformatted}
use Rattle.model.specs.Driving.{at_start, lines_of, output}
use Rattle.state.specs.View.{state_of}
use Rattle.state.proofs.View.{view_state}
use Rattle.drive.specs.Recorder.{fresh}
use Rattle.input.specs.Ahead.{ahead}
use Rattle.input.proofs.start.Goals as goal

pub returns : goal.returns
unfolding ahead output lines_of at_start fresh state_of
returns c = record { by_index = λ line out input. rw (c.unformatted-recorder.ensures, view_state unformatted); ready = (rw c.unformatted-recorder.ensures (λ e. absurd (true≢false (sym e))), refl, refl) }

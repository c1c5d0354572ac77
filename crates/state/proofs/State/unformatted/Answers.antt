use Rattle.state.specs.View.{state_of}
use Rattle.state.proofs.State.unformatted.Goals as goal

pub returns : goal.returns
unfolding state_of
returns c = rw (c.empty-4.ensures, c.empty-3.ensures, c.empty-2.ensures, c.empty.ensures)

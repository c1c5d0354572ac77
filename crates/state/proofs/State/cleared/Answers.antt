use Rattle.state.specs.View.{state_of}
use Rattle.state.proofs.State.cleared.Goals as goal

pub returns : goal.returns
unfolding state_of
returns c = rw (c.cleared-free.ensures, c.cleared-gc.ensures, c.cleared-writes.ensures, c.cleared-reads.ensures)

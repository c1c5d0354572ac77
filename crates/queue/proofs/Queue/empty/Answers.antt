use Rattle.lists.specs.Arrays.{padded}
use Rattle.model.specs.State.{entry}
use Rattle.queue.proofs.Queue.empty.Goals as goal

pub returns : goal.returns
unfolding padded entry
returns c = rw c.entry-none.ensures

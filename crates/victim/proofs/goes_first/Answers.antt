use Rattle.model.specs.Operations.{goes_first}
use Rattle.victim.proofs.goes_first.Goals as goal

pub returns : goal.returns
unfolding goes_first
returns c = rw (c.epoch_of-2.ensures, c.epoch_of.ensures)

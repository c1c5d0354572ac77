use Rattle.model.specs.Sizes.{limits}
use Rattle.lists.specs.Lists.{every}
use Rattle.geometry.proofs.limits.Goals as goal

pub returns : goal.returns
unfolding limits every
returns c = rw (c.queues_within.ensures, c.within-4.ensures, c.within-3.ensures, c.within-2.ensures, c.within.ensures)

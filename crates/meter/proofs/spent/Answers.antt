use Rattle.meter.specs.Run.{spent}
use Rattle.meter.proofs.spent.Goals as goal

pub returns : goal.returns
unfolding spent
returns c = rw c.saturating_sub.ensures

use Rattle.model.specs.Spare.{blank}
use Rattle.spare.proofs.is_blank.Goals as goal

pub returns : goal.returns
unfolding blank
returns c = c.equal.ensures

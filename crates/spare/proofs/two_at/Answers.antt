use Rattle.model.specs.Spare.{two}
use Rattle.spare.proofs.two_at.Goals as goal

pub returns : goal.returns
unfolding two
returns c = c.from_be_bytes.ensures

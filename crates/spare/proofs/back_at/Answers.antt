use Rattle.model.specs.Spare.{back}
use Rattle.spare.proofs.back_at.Goals as goal

pub returns : goal.returns
unfolding back
returns c = rw c.tag_at.ensures.bytes at c.two_at.ensures

use Rattle.model.specs.Spare.{epoch}
use Rattle.spare.proofs.epoch_at.Goals as goal

pub returns : goal.returns
unfolding epoch
returns c = rw c.tag_at.ensures.bytes at c.four_at.ensures

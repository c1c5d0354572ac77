use Rattle.model.specs.Spare.{kind}
use Rattle.spare.proofs.kind_at.Goals as goal

pub returns : goal.returns
unfolding kind
returns c = rw c.tag_at.ensures.bytes

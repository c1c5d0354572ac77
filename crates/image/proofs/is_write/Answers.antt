use Rattle.image.specs.Chip.{spare_only}
use Rattle.image.proofs.First.{write_real}
use Rattle.model.specs.Image.{head_tag, used, is_write}
use Rattle.image.proofs.is_write.Goals as goal

pub returns : goal.returns
unfolding is_write used
returns c = let a = c.args in rw c.head_kind.ensures (write_real (head_tag a.z (spare_only a.spare.now) a.c))

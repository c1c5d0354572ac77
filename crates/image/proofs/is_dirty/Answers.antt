use Rattle.model.specs.Image.{is_dirty}
use Rattle.image.proofs.is_dirty.Goals as goal

pub returns : goal.returns
unfolding is_dirty
returns c = rw c.head_kind.ensures

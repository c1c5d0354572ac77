use Rattle.std.proofs.Common.{refl}
use Rattle.spare.proofs.Looked.{ends_real}
use Rattle.model.specs.Spare.{kind, ordinal, pages}
use Rattle.spare.proofs.ends_at.Goals as goal

pub returns : goal.returns
unfolding kind ordinal pages
returns c = rw (← c.tag_at-tag.ensures.bytes, c.from.ensures, c.from-2.ensures) (ends_real c.tag_at-tag.result.now _ _ _ refl refl refl)

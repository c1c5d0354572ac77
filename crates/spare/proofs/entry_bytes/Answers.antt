use Rattle.model.specs.Spare.{epoch, back, entry_tag}
use Rattle.spare.specs.Fields.{tag}
use Rattle.spare.proofs.entry_bytes.Goals as goal

pub returns : goal.returns
unfolding epoch back entry_tag tag
returns c = rw (c.equal.ensures, c.encode.ensures, c.four_at.ensures, c.two_at.ensures)

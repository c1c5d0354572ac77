use Rattle.spare.specs.Fields.{fields}
use Rattle.model.specs.Spare.{kind, ordinal, pages, epoch, back, offset}
use Rattle.spare.proofs.decode.Goals as goal

pub returns : goal.returns
unfolding fields kind ordinal pages epoch back offset
returns c = rw (c.four_at-epoch.ensures, c.two_at-back.ensures, c.two_at-offset.ensures, c.two_at-last.ensures)

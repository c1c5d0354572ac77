use Rattle.model.specs.Ledger.{one_in_use}
use Rattle.model.specs.Image.{page_blank}
use Rattle.ledger.proofs.one_in_use.Goals as goal

pub returns : goal.returns
unfolding one_in_use page_blank
returns c = rw (c.page_blank-first.ensures, c.page_blank.ensures, c.body-lower.ensures)

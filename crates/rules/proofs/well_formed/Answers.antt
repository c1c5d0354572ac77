use Rattle.model.specs.Ledger.{well_formed}
use Rattle.lists.specs.Lists.{every}
use Rattle.rules.proofs.well_formed.Goals as goal

pub returns : goal.returns
unfolding well_formed every
returns c = rw (c.body_fits-body.ensures, c.ledger_fits.ensures)

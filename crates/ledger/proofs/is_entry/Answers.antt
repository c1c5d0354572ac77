use Rattle.model.specs.Ledger.{is_entry}
use Rattle.ledger.proofs.is_entry.Goals as goal

pub returns : goal.returns
unfolding is_entry
returns c = rw (c.entry_at-entry.ensures, c.back_at-bucket.ensures, c.body.ensures)

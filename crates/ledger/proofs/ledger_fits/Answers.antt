use Rattle.ledger.proofs.Pages.{ledger_split}
use Rattle.image.specs.Chip.{spare_only}
use mathlib.Core.Path.{sym}
use Rattle.ledger.proofs.ledger_fits.Goals as goal

pub returns : goal.returns
returns c = let a = c.args in rw (c.half_fits-first.ensures, c.half_fits.ensures, c.body-lower.ensures) (sym (ledger_split a.z (spare_only a.spare.now)))

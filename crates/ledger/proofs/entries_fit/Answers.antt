use borrow.Author.Rules.{rules}
use borrow.Author.Tests.{tests}
use Rattle.model.specs.Ledger.{entry_fits, entries_fit}
use Rattle.image.specs.Chip.{spare_only}
use Rattle.ledger.proofs.Ranges.{all_told}
use Rattle.ledger.proofs.entries_fit.Goals as goal

pub returns : goal.returns
unfolding entries_fit
returns c = all_told (entry_fits c.args.z (spare_only c.args.spare.now)) c.all.ensures.ran (λ x b q k. search (rules, tests))

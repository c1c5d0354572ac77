use borrow.Author.Rules.{rules}
use borrow.Author.Tests.{tests}
use Rattle.ledger.proofs.Ranges.{all_told}
use Rattle.model.specs.Ledger.{loose_fits}
use Rattle.image.specs.Chip.{spare_only}
use Rattle.holes.proofs.loose_fits.Goals as goal

pub returns : goal.returns
returns c = let a = c.args in all_told (loose_fits a.z (spare_only a.spare.now) a.c) c.all.ensures.ran (λ x b q k. search (rules, tests))

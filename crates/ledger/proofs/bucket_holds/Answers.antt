use borrow.Author.Rules.{rules}
use borrow.Author.Tests.{tests}
use Rattle.model.specs.Ledger.{holds_epoch}
use Rattle.image.specs.Chip.{spare_only}
use Rattle.ledger.proofs.Ranges.{all_told}
use Rattle.ledger.proofs.bucket_holds.Goals as goal

pub returns : goal.returns
returns c = let a = c.args in all_told (holds_epoch a.z (spare_only a.spare.now) a.x a.epoch) c.all.ensures.ran (λ x b q k. search (rules, tests))

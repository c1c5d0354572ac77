use borrow.Author.Rules.{rules}
use borrow.Author.Tests.{tests}
use mathlib.Core.Path.{sym, ◌∙◌}
use Rattle.ledger.proofs.Ranges.{all_told}
use Rattle.rules.proofs.Walk.{bucket_stands}
use Rattle.rules.specs.Pages.{stands}
use Rattle.image.specs.Chip.{spare_only}
use Rattle.rules.proofs.pages_fit.Goals as goal

pub returns : goal.returns
returns c = let a = c.args in let d = spare_only a.spare.now in
    all_told (stands a.z d a.c) c.all.ensures.ran (λ x b q k. search (rules, tests)) ∙ sym (bucket_stands a.z d a.c)

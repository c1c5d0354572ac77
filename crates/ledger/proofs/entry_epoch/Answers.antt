use Rattle.ledger.proofs.Pages.{ledger_inside, entry_inside, kind_there}
use Rattle.image.specs.Chip.{spare_only}
use Rattle.model.specs.Ledger.{ledger_tag}
use Rattle.model.specs.State.{entry_epoch}
use Rattle.model.specs.Spare.{programmed, kind}
use Rattle.model.specs.Stores.{tag_of}
use Rattle.model.specs.Sizes.{page_index}
use borrow.Author.Tests.{eq-eqb, ne_eqb}
use native.Mathlib.Omega.{arith}
use mathlib.Core.Bool.{true, false}
use mathlib.Core.Path.{◌≡◌, sym, ◌∙◌}
use Rattle.ledger.proofs.entry_epoch.Goals as goal

pub overflow_mul-page : goal.overflow_mul-page
overflow_mul-page c = rw c.body.ensures (omega (arith, ledger_inside c.requires.chip))

pub overflow_add-page : goal.overflow_add-page
overflow_add-page c = rw c.body.ensures (omega (arith, entry_inside c.requires.chip c.requires.i_bound))

pub kind_at-requires : goal.kind_at-requires
kind_at-requires c = rw c.body.ensures (entry_inside c.requires.chip c.requires.i_bound)

pub returns-then-kind_at-ne-LEDGER_KIND : goal.returns-then-kind_at-ne-LEDGER_KIND
unfolding entry_epoch ledger_tag tag_of page_index
returns-then-kind_at-ne-LEDGER_KIND c = let a = c.args in let tag = ledger_tag a.z (spare_only a.spare.now) a.i in
    let e : programmed tag ≡ false = kind_there a.z (spare_only a.spare.now) a.i c.requires.i_value ∙ ne_eqb (kind tag) 4 (λ q. c.if-kind_at-ne-LEDGER_KIND.true (rw c.body.ensures at c.kind_at.ensures ∙ q)) in rw e

pub epoch_at-requires : goal.epoch_at-requires
epoch_at-requires c = rw c.body.ensures (entry_inside c.requires.chip c.requires.i_bound)

pub returns : goal.returns
unfolding entry_epoch ledger_tag tag_of page_index
returns c = let a = c.args in let tag = ledger_tag a.z (spare_only a.spare.now) a.i in
    let four : kind tag ≡ 4 = rw c.body.ensures at (sym c.kind_at.ensures ∙ c.if-kind_at-ne-LEDGER_KIND.false) in
    let e : programmed tag ≡ true = kind_there a.z (spare_only a.spare.now) a.i c.requires.i_value ∙ eq-eqb (kind tag) 4 four in
    rw e (rw c.body.ensures at c.epoch_at.ensures)

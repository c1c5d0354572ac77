use Rattle.model.specs.Spare.{kind, epoch, back}
use Rattle.ledger.proofs.Names.{holds_own, names-kind, names_other, names_fails, names-holds}
use Rattle.ledger.proofs.Pages.{ledger_inside, entry_inside}
use Rattle.image.specs.Chip.{spare_only}
use Rattle.model.specs.Ledger.{ledger_tag}
use Rattle.model.specs.Stores.{tag_of}
use Rattle.model.specs.Sizes.{page_index}
use native.Mathlib.Omega.{arith}
use mathlib.Core.Bool.{true, false}
use mathlib.Core.Path.{◌≡◌, sym, ◌∙◌}
use Rattle.ledger.proofs.named_by.Goals as goal

pub overflow_mul-page : goal.overflow_mul-page
overflow_mul-page c = rw c.body-end.ensures (omega (arith, ledger_inside c.requires.chip))

pub overflow_add-page : goal.overflow_add-page
overflow_add-page c = rw c.body-end.ensures (omega (arith, entry_inside c.requires.chip c.requires.i_bound))

pub kind_at-requires : goal.kind_at-requires
kind_at-requires c = rw c.body-end.ensures (entry_inside c.requires.chip c.requires.i_bound)

pub returns-then-kind_at-ne-LEDGER_KIND : goal.returns-then-kind_at-ne-LEDGER_KIND
unfolding ledger_tag tag_of page_index
returns-then-kind_at-ne-LEDGER_KIND c = let a = c.args in
    λ x h. names-kind a.z (spare_only a.spare.now) a.i (λ e. c.if-kind_at-ne-LEDGER_KIND.true (rw c.body-end.ensures at c.kind_at.ensures ∙ e)) x

pub back_at-x-requires : goal.back_at-x-requires
back_at-x-requires c = rw c.body-end.ensures (entry_inside c.requires.chip c.requires.i_bound)

pub returns-then-end-x : goal.returns-then-end-x
unfolding ledger_tag tag_of page_index
returns-then-end-x c = let a = c.args in
    λ x h. names_other a.z (spare_only a.spare.now) a.i x (λ e. omega (arith, c.if-end-x.true, c.body-end.ensures, rw c.body-end.ensures at c.back_at-x.ensures))

pub epoch_at-epoch-requires : goal.epoch_at-epoch-requires
epoch_at-epoch-requires c = rw c.body-end.ensures (entry_inside c.requires.chip c.requires.i_bound)

pub bucket_holds-requires : goal.bucket_holds-requires
bucket_holds-requires c = record { chip = c.requires.chip; x_lt_c = omega (arith, c.if-end-x.false, c.body-end.ensures, c.requires.chip.limits.ledger_in) }

pub returns-then-bucket_holds : goal.returns-then-bucket_holds
unfolding ledger_tag tag_of page_index
returns-then-bucket_holds c = let a = c.args in let tag = ledger_tag a.z (spare_only a.spare.now) a.i in
    let b : c.back_at-x.result ≡ back tag = rw c.body-end.ensures at c.back_at-x.ensures in
    let e : c.epoch_at-epoch.result ≡ epoch tag = rw c.body-end.ensures at c.epoch_at-epoch.ensures in
    let k : kind tag ≡ 4 = rw c.body-end.ensures at (sym c.kind_at.ensures ∙ c.if-kind_at-ne-LEDGER_KIND.false) in
    let h : holds_own a.z (spare_only a.spare.now) a.i ≡ true = rw (b, e) at (sym c.bucket_holds.ensures ∙ c.if-bucket_holds.true) in
    (omega (arith, c.if-end-x.false, c.body-end.ensures), λ x q. rw b (names-holds a.z (spare_only a.spare.now) a.i k h x))

pub returns-else-bucket_holds : goal.returns-else-bucket_holds
unfolding ledger_tag tag_of page_index
returns-else-bucket_holds c = let a = c.args in let tag = ledger_tag a.z (spare_only a.spare.now) a.i in
    let b : c.back_at-x.result ≡ back tag = rw c.body-end.ensures at c.back_at-x.ensures in
    let e : c.epoch_at-epoch.result ≡ epoch tag = rw c.body-end.ensures at c.epoch_at-epoch.ensures in
    let h : holds_own a.z (spare_only a.spare.now) a.i ≡ false = rw (b, e) at (sym c.bucket_holds.ensures ∙ c.if-bucket_holds.false) in
    λ x q. names_fails a.z (spare_only a.spare.now) a.i h x

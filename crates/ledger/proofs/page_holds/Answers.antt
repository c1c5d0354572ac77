use Prim.Native.Nat.{◌+◌, ◌*◌}
use Rattle.image.proofs.Place.{page_inside}
use Rattle.ledger.proofs.Pages.{unprogrammed_test}
use Rattle.model.specs.Ledger.{holds_epoch}
use Rattle.model.specs.Spare.{blank, spoiled, programmed, epoch}
use Rattle.model.specs.Stores.{tag_of}
use Rattle.model.specs.Sizes.{page_index}
use Rattle.lists.proofs.Tests.{or_second}
use Rattle.lists.specs.Lists.{part}
use borrow.Author.Tests.{eq-eqb, ne_eqb}
use native.Mathlib.Omega.{arith}
use mathlib.Core.Bool.{not, ◌||◌, or-false}
use mathlib.Core.Path.{sym, ◌∙◌}
use Rattle.ledger.proofs.page_holds.Goals as goal

pub overflow_mul-page : goal.overflow_mul-page
overflow_mul-page c = let p = c.requires in omega (arith, page_inside p.chip p.x_lt_c p.k_lt_p)

pub overflow_add-page : goal.overflow_add-page
overflow_add-page c = let p = c.requires in omega (arith, page_inside p.chip p.x_lt_c p.k_lt_p)

pub epoch_at-requires : goal.epoch_at-requires
epoch_at-requires c = let p = c.requires in page_inside p.chip p.x_lt_c p.k_lt_p

pub returns-then-epoch_at-epoch : goal.returns-then-epoch_at-epoch
unfolding holds_epoch tag_of page_index
returns-then-epoch_at-epoch c = let a = c.args in let tag = part a.spare.now ((a.x * a.z.p + a.k) * 16) 16 in
    sym (or_second (not (programmed tag)) _ (eq-eqb (epoch tag) a.epoch (sym c.epoch_at.ensures ∙ c.if-epoch_at-epoch.true)))

pub kind_at-spoiled-requires : goal.kind_at-spoiled-requires
kind_at-spoiled-requires c = let p = c.requires in page_inside p.chip p.x_lt_c p.k_lt_p

pub blank_at-requires : goal.blank_at-requires
blank_at-requires c = let p = c.requires in page_inside p.chip p.x_lt_c p.k_lt_p

pub returns : goal.returns
unfolding holds_epoch spoiled tag_of page_index
returns c = let a = c.args in let tag = part a.spare.now ((a.x * a.z.p + a.k) * 16) 16 in
    rw (c.blank_at.ensures, c.kind_at-spoiled.ensures, unprogrammed_test tag, ne_eqb (epoch tag) a.epoch (λ e. c.if-epoch_at-epoch.false (c.epoch_at.ensures ∙ e))) (sym (or-false (spoiled tag || blank tag)))

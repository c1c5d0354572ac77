use mathlib.Core.Bool.{false}
use mathlib.Core.Path.{◌≡◌, sym, ap, ◌∙◌}
use borrow.Author.Tests.{ne_eqb}
use Rattle.model.specs.Sizes.{page_index}
use Rattle.model.specs.Spare.{spoiled, kind}
use Rattle.model.specs.Stores.{tag_of}
use Rattle.model.proofs.Heads.{head_first}
use Rattle.image.specs.Chip.{spare_only}
use Rattle.image.proofs.First.{first_inside, first_tag_lem}
use Rattle.image.proofs.Place.{page_inside}
use Rattle.rules.proofs.Epochs.{head_said}
use Rattle.rules.proofs.head_epoch.Goals as goal

pub kind_at-requires : goal.kind_at-requires
kind_at-requires c = first_inside c.requires.chip c.requires.c_lt_c

pub page_epoch-requires : goal.page_epoch-requires
page_epoch-requires c = first_inside c.requires.chip c.requires.c_lt_c

pub returns-then-kind_at-ne-SPOILED_KIND : goal.returns-then-kind_at-ne-SPOILED_KIND
unfolding spoiled
returns-then-kind_at-ne-SPOILED_KIND c = let a = c.args in let d = spare_only a.spare.now in let tag = first_tag_lem a.z d a.c in
    let real : spoiled (tag_of a.z d a.c 0) ≡ false = ne_eqb _ 0 (λ e. c.if-kind_at-ne-SPOILED_KIND.true (c.kind_at.ensures ∙ (ap kind tag ∙ e))) in
    head_said a.z d a.c _ _ (tag ∙ sym (head_first a.z d a.c real)) c.requires.no_kind c.page_epoch.ensures

pub page_epoch-requires-2 : goal.page_epoch-requires-2
page_epoch-requires-2 c = page_inside c.requires.chip c.requires.c_lt_c c.head.ensures.inside

pub returns : goal.returns
unfolding tag_of page_index
returns c = let a = c.args in head_said a.z (spare_only a.spare.now) a.c _ _ (sym c.head.ensures.is) c.requires.no_kind c.page_epoch-2.ensures

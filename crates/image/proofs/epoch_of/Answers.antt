use native.Mathlib.Omega.{arith}
use mathlib.Core.Path.{sym, ap, ◌∙◌}
use Rattle.image.specs.Chip.{spare_only}
use Rattle.model.proofs.Formed.{epoch-used, epoch_unused}
use Rattle.model.specs.Image.{used, page_programmed}
use Rattle.model.specs.Spare.{epoch, programmed}
use Rattle.model.specs.Stores.{tag_of}
use Rattle.model.specs.Sizes.{page_index}
use Rattle.image.proofs.Place.{page_inside}
use Rattle.image.proofs.epoch_of.Goals as goal

pub overflow_mul-c : goal.overflow_mul-c
overflow_mul-c c = let p = c.requires in omega (arith, page_inside p.chip p.c_lt_c c.head-page.ensures.inside)

pub overflow_add-c : goal.overflow_add-c
overflow_add-c c = let p = c.requires in omega (arith, page_inside p.chip p.c_lt_c c.head-page.ensures.inside)

pub epoch_at-requires : goal.epoch_at-requires
epoch_at-requires c = let p = c.requires in page_inside p.chip p.c_lt_c c.head-page.ensures.inside

pub returns-then-page_programmed : goal.returns-then-page_programmed
unfolding used page_programmed tag_of page_index
returns-then-page_programmed c = let a = c.args in let h = c.head-page.ensures.is in
    c.epoch_at.ensures ∙ (ap epoch (sym h) ∙ sym (epoch-used a.z (spare_only a.spare.now) a.c (ap programmed h ∙ (sym c.page_programmed.ensures ∙ c.if-page_programmed.true))))

pub returns-else-page_programmed : goal.returns-else-page_programmed
unfolding used page_programmed
returns-else-page_programmed c = let a = c.args in
    sym (epoch_unused a.z (spare_only a.spare.now) a.c (ap programmed c.head-page.ensures.is ∙ (sym c.page_programmed.ensures ∙ c.if-page_programmed.false)))

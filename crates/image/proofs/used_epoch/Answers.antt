use Rattle.image.specs.Chip.{spare_only}
use Rattle.model.proofs.Formed.{epoch-used}
use Rattle.model.specs.Spare.{epoch}
use mathlib.Core.Path.{sym, ap, ◌∙◌}
use native.Mathlib.Omega.{arith}
use Rattle.model.specs.Stores.{tag_of}
use Rattle.model.specs.Sizes.{page_index}
use Rattle.image.proofs.Place.{page_inside}
use Rattle.image.proofs.used_epoch.Goals as goal

pub overflow_mul-c : goal.overflow_mul-c
overflow_mul-c c = let p = c.requires in omega (arith, page_inside p.chip p.c_lt_c c.head-page.ensures.inside)

pub overflow_add-c : goal.overflow_add-c
overflow_add-c c = let p = c.requires in omega (arith, page_inside p.chip p.c_lt_c c.head-page.ensures.inside)

pub epoch_at-requires : goal.epoch_at-requires
epoch_at-requires c = let p = c.requires in page_inside p.chip p.c_lt_c c.head-page.ensures.inside

pub returns : goal.returns
unfolding tag_of page_index
returns c = let s = c in let a = s.args in
    c.epoch_at.ensures ∙ (ap epoch (sym c.head-page.ensures.is) ∙ sym (epoch-used a.z (spare_only a.spare.now) a.c s.requires.c_value))

use Rattle.model.specs.Image.{back_of}
use Rattle.model.specs.Spare.{back}
use mathlib.Core.Path.{sym, ap, ◌∙◌}
use native.Mathlib.Omega.{arith}
use Rattle.model.specs.Stores.{tag_of}
use Rattle.model.specs.Sizes.{page_index}
use Rattle.image.proofs.Place.{page_inside}
use Rattle.image.proofs.back_of.Goals as goal

pub overflow_mul-c : goal.overflow_mul-c
overflow_mul-c c = let p = c.requires in omega (arith, page_inside p.chip p.c_lt_c c.head-page.ensures.inside)

pub overflow_add-c : goal.overflow_add-c
overflow_add-c c = let p = c.requires in omega (arith, page_inside p.chip p.c_lt_c c.head-page.ensures.inside)

pub back_at-requires : goal.back_at-requires
back_at-requires c = let p = c.requires in page_inside p.chip p.c_lt_c c.head-page.ensures.inside

pub returns : goal.returns
unfolding back_of tag_of page_index
returns c = c.back_at.ensures ∙ ap back (sym c.head-page.ensures.is)

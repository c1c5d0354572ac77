use Rattle.model.specs.Spare.{kind}
use mathlib.Core.Path.{sym, ap, ◌∙◌}
use native.Mathlib.Omega.{arith}
use Rattle.model.specs.Stores.{tag_of}
use Rattle.model.specs.Sizes.{page_index}
use Rattle.image.proofs.Place.{page_inside}
use Rattle.image.proofs.head_kind.Goals as goal

pub overflow_mul-c : goal.overflow_mul-c
overflow_mul-c c = let p = c.requires in omega (arith, page_inside p.chip p.c_lt_c c.head-page.ensures.inside)

pub overflow_add-c : goal.overflow_add-c
overflow_add-c c = let p = c.requires in omega (arith, page_inside p.chip p.c_lt_c c.head-page.ensures.inside)

pub kind_at-requires : goal.kind_at-requires
kind_at-requires c = let p = c.requires in page_inside p.chip p.c_lt_c c.head-page.ensures.inside

pub returns : goal.returns
unfolding tag_of page_index
returns c = c.kind_at.ensures ∙ ap kind (sym c.head-page.ensures.is)

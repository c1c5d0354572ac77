use native.Mathlib.Omega.{arith}
use Rattle.model.specs.Stores.{tag_of}
use Rattle.model.specs.Sizes.{page_index}
use Rattle.image.proofs.Place.{page_inside}
use Rattle.image.specs.Chip.{spare_only}
use Rattle.holes.proofs.Found.{speaks_epoch}
use Rattle.holes.proofs.found_epoch.Goals as goal

pub overflow_mul-c : goal.overflow_mul-c
overflow_mul-c c = omega (arith, page_inside c.requires.chip c.requires.c_lt_c c.head_page-k.ensures.inside)

pub overflow_add-c : goal.overflow_add-c
overflow_add-c c = omega (arith, page_inside c.requires.chip c.requires.c_lt_c c.head_page-k.ensures.inside)

pub page_epoch-requires : goal.page_epoch-requires
page_epoch-requires c = page_inside c.requires.chip c.requires.c_lt_c c.head_page-k.ensures.inside

pub returns : goal.returns
unfolding tag_of page_index
returns c = speaks_epoch c.args.z (spare_only c.args.spare.now) c.args.c _ _ c.head_page-k.ensures c.requires.c_value c.page_epoch.ensures

use Rattle.model.specs.Image.{page_blank}
use Rattle.model.specs.Sizes.{page_index}
use Rattle.model.specs.Stores.{tag_of}
use Rattle.image.proofs.Place.{page_inside}
use native.Mathlib.Omega.{arith}
use Rattle.image.proofs.page_blank.Goals as goal

pub overflow_mul-c : goal.overflow_mul-c
overflow_mul-c c = omega (arith, page_inside c.requires.chip c.requires.c_lt_c c.requires.k_lt_p)

pub overflow_add-c : goal.overflow_add-c
overflow_add-c c = omega (arith, page_inside c.requires.chip c.requires.c_lt_c c.requires.k_lt_p)

pub blank_at-requires : goal.blank_at-requires
blank_at-requires c = page_inside c.requires.chip c.requires.c_lt_c c.requires.k_lt_p

pub returns : goal.returns
unfolding page_blank tag_of page_index
returns c = c.blank_at.ensures

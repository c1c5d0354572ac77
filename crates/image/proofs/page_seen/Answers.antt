use native.Mathlib.Omega.{arith}
use Rattle.image.proofs.Place.{page_inside}
use Rattle.model.specs.Stores.{tag_of}
use Rattle.model.specs.Sizes.{page_index}
use Rattle.image.proofs.page_seen.Goals as goal

pub overflow_mul-c : goal.overflow_mul-c
overflow_mul-c c = omega (arith, page_inside c.requires.chip c.requires.c_lt_c c.requires.k_lt_p)

pub overflow_add-c : goal.overflow_add-c
overflow_add-c c = omega (arith, page_inside c.requires.chip c.requires.c_lt_c c.requires.k_lt_p)

pub seen_at-requires : goal.seen_at-requires
seen_at-requires c = page_inside c.requires.chip c.requires.c_lt_c c.requires.k_lt_p

pub returns : goal.returns
unfolding tag_of page_index
returns c = c.seen_at.ensures

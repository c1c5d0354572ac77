use Rattle.std.proofs.Common.{arith}
use Rattle.remerge.proofs.Inside.{inside}
use Rattle.remerge.proofs.tear.blank_page.Goals as goal

pub slice_bounds-fill-end : goal.slice_bounds-fill-end
slice_bounds-fill-end c = omega (arith, inside c.requires.chip c.requires.flash_len c.requires.c_lt_c)

pub slice_bounds-fill-end-2 : goal.slice_bounds-fill-end-2
slice_bounds-fill-end-2 c = omega (arith, inside c.requires.chip c.requires.flash_len c.requires.c_lt_c)

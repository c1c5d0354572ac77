-- `workbench::shows::show_page` meets its contract.
use native.Mathlib.Omega.{arith}
use lib.ListN.{length-take}
use Rattle.workbench.proofs.shows.show_page.Goals as goal

pub slice_bounds-bytes-end : goal.slice_bounds-bytes-end
slice_bounds-bytes-end c = omega (arith, c.requires.0.limits.s_high)

pub slice_bounds-show-end : goal.slice_bounds-show-end
slice_bounds-show-end c = simp length-take (omega (arith, c.requires.0.limits.s_high))

pub show-requires : goal.show-requires
show-requires c = (simp length-take (omega (arith, c.requires.0.limits.s_high)), c.requires.3)

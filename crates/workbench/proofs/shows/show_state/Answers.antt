-- `workbench::shows::show_state` meets its contract.
use native.Mathlib.Omega.{arith}
use lib.ListN.{length-take}
use Rattle.workbench.proofs.shows.show_state.Goals as goal

pub slice_bounds-show-end : goal.slice_bounds-show-end
slice_bounds-show-end c = simp length-take (omega (arith, c.in-Some.ensures.upper_bound))

pub show-requires : goal.show-requires
show-requires c = (simp length-take (omega (arith, c.in-Some.ensures.upper_bound)), c.requires)

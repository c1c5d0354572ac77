-- `workbench::asks::look_line` meets its contract.
use native.Mathlib.Omega.{arith}
use lib.ListN.{length-take}
use Rattle.workbench.proofs.asks.look_line.Goals as goal

pub slice_bounds-look_at-end : goal.slice_bounds-look_at-end
slice_bounds-look_at-end c = simp length-take (omega (arith, c.lent-lent.ensures.0, c.requires.1))

pub look_at-length-requires : goal.look_at-length-requires
look_at-length-requires c = (simp length-take (omega (arith, c.lent-lent.ensures.0, c.requires.1)), c.requires.2)

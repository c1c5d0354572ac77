use Prim.Native.Nat.{◌-◌, ◌≤◌}
use Rattle.image.specs.Chip.{spare_only}
use Rattle.rules.specs.Pages.{Fitting}
use Rattle.rules.proofs.fitting_from.Given as goal

abbrev pub invariant-loop-k : goal.invariant-loop-k
invariant-loop-k l = (1 ≤ l.k) × Fitting l.z (spare_only l.spare) l.c l.k

abbrev pub decreases-loop-k : goal.decreases-loop-k
decreases-loop-k l = l.z.p - l.k

use Prim.Native.Nat.{◌-◌}
use lib.ListN.{length}
use Rattle.rescue.specs.Beside.{Passed}
use Rattle.rescue.proofs.skip_parts.Given as goal

abbrev pub invariant-loop-at : goal.invariant-loop-at
invariant-loop-at l = Passed l.x l.column l.from l.at

abbrev pub decreases-loop-at : goal.decreases-loop-at
decreases-loop-at l = length l.column - l.at

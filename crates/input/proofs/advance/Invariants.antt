use lib.ListN.{length}
use Prim.Native.Nat.{◌-◌}
use Rattle.input.proofs.Along.{Along}
use Rattle.input.proofs.advance.Given as goal

abbrev pub invariant-loop-walk : goal.invariant-loop-walk
invariant-loop-walk l = Along l.piece l.initial.walk l.initial.line l.initial.buffer l.initial.flash l.initial.spare l.initial.disk l.initial.out l.walk l.line l.buffer l.flash l.spare l.disk l.out

abbrev pub decreases-loop-walk : goal.decreases-loop-walk
decreases-loop-walk l = length l.piece - l.walk.passed

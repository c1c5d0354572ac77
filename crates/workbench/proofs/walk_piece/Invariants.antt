use Rattle.std.proofs.Common.{◌-◌, length}
use Rattle.workbench.specs.Walk.{Sound}
use Rattle.workbench.proofs.walk_piece.Given as goal

abbrev pub invariant-loop-from : goal.invariant-loop-from
invariant-loop-from l = Sound l.walk l.line l.flash l.spare l.disk l.out

abbrev pub decreases-loop-from : goal.decreases-loop-from
decreases-loop-from l = length l.piece - l.from

use Rattle.workbench.specs.Walk.{Sound}
use Rattle.workbench.proofs.walk_pieces.Given as goal

abbrev pub invariant-loop : goal.invariant-loop
invariant-loop l = Sound l.walk l.line l.flash l.spare l.disk l.out

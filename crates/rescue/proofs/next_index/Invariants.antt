use Rattle.rescue.specs.Beside.{Passed}
use Rattle.rescue.proofs.next_index.Given as goal

abbrev pub invariant-loop-at : goal.invariant-loop-at
invariant-loop-at l = Passed l.x l.column l.from l.at

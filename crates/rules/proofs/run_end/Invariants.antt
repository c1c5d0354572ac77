use Prim.Native.Nat.{◌-◌}
use Rattle.rules.proofs.Runs.{Run}
use Rattle.rules.proofs.run_end.Given as goal

abbrev pub invariant-loop-e : goal.invariant-loop-e
invariant-loop-e l = Run l.z l.spare l.c l.e l.first l.second (l.end - l.e)

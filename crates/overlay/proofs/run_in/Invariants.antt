use Rattle.overlay.proofs.Found.{Above}
use Prim.Native.Nat.{◌≤◌, ◌<◌}
use Rattle.overlay.proofs.run_in.Given as goal

abbrev pub invariant-loop-k : goal.invariant-loop-k
invariant-loop-k l = (l.k ≤ l.z.p) × (l.start < l.x) × (l.from ≤ l.start) × Above l.z l.spare l.c l.start l.x l.k

use Rattle.overlay.proofs.Found.{Among}
use lib.ListN.{length}
use Prim.Native.Nat.{◌≤◌, ◌<◌}
use Rattle.overlay.proofs.run_at.Given as goal

abbrev pub invariant-loop-j : goal.invariant-loop-j
invariant-loop-j l = (l.j ≤ length l.list) × (l.start < l.x) × (l.from ≤ l.start) × Among l.z l.spare l.list l.start l.x l.j

use Rattle.rescue.specs.Beside.{beside}
use lib.ListN.{length, take, drop, get_or}
use mathlib.Core.List.{◌++◌}
use mathlib.Core.Path.{◌≡◌}
use Prim.Native.Nat.{◌-◌, ◌≤◌, ◌<◌}
use Rattle.rescue.proofs.list_writes.Given as goal

abbrev pub invariant-loop-at : goal.invariant-loop-at
invariant-loop-at l = (l.at ≤ length l.writes) × (l.count ≤ l.at) × (length l.list ≡ length l.initial.list) × (l.at < length l.writes → l.b ≡ get_or l.writes l.at 0)
    × (take l.count l.list ++ beside l.b (drop l.at l.writes) (drop l.at l.order) ≡ beside l.b l.writes l.order)

abbrev pub decreases-loop-at : goal.decreases-loop-at
decreases-loop-at l = length l.writes - l.at

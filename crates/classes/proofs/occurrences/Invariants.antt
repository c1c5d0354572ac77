use lib.ListN.{take}
use Prim.Native.Nat.{◌≤◌}
use Rattle.lists.specs.Lists.{times}
use mathlib.Core.Path.{◌≡◌}
use Rattle.classes.proofs.occurrences.Given as goal

abbrev pub invariant-loop-x : goal.invariant-loop-x
invariant-loop-x l = (l.count ≤ l.x-index) × (l.count ≡ times l.b (take l.x-index l.column))

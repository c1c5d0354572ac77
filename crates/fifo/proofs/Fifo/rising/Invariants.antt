use Rattle.lists.specs.Lists.{below}
use lib.ListN.{length, take}
use mathlib.Core.Path.{◌≡◌}
use Prim.Native.Nat.{◌≤◌}
use Rattle.fifo.proofs.Fifo.rising.Given as goal

abbrev pub invariant-loop-bucket : goal.invariant-loop-bucket
invariant-loop-bucket l = (l.bucket ≤ l.count) × (length l.items ≡ 256) × (take l.bucket l.items ≡ below l.bucket)

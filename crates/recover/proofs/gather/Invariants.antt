use Prim.Native.Nat.{◌+◌}
use Rattle.recover.specs.Kept.{picked}
use lib.ListN.{length, take}
use mathlib.Core.List.{◌++◌}
use mathlib.Core.Path.{◌≡◌}
use Rattle.recover.proofs.gather.Given as goal

abbrev pub invariant-loop-i : goal.invariant-loop-i
invariant-loop-i l = (length l.items ≡ 256) × (l.n ≡ l.initial.n + length (picked (take l.i l.column) (take l.i l.order))) × (take l.n l.items ≡ take l.initial.n l.initial.items ++ picked (take l.i l.column) (take l.i l.order))

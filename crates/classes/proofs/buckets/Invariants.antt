use Rattle.classes.specs.Columns.{is_kind}
use Rattle.lists.specs.Lists.{keep, below}
use Rattle.image.specs.Chip.{spare_only}
use lib.ListN.{length, take}
use Prim.Native.Nat.{◌≤◌}
use mathlib.Core.Path.{◌≡◌}
use Rattle.classes.proofs.buckets.Given as goal

abbrev pub invariant-loop-c : goal.invariant-loop-c
invariant-loop-c l = (l.n ≤ l.c) × (length l.items ≡ 256) × (take l.n l.items ≡ keep (is_kind l.z (spare_only l.spare) l.kind) (below l.c))

use Rattle.recover.specs.Kept.{entry_of, differing}
use Rattle.image.specs.Chip.{spare_only}
use lib.ListN.{length, take}
use mathlib.Core.List.{map}
use mathlib.Core.Path.{◌≡◌}
use Rattle.recover.proofs.kept_queue.Given as goal

abbrev pub invariant-loop-i : goal.invariant-loop-i
invariant-loop-i l = (length l.items ≡ 64) × (l.n ≡ length (differing (take l.i l.column) (take l.i l.dropped) (take l.i l.order))) × (take l.n l.items ≡ map (entry_of l.z (spare_only l.spare) l.counted) (differing (take l.i l.column) (take l.i l.dropped) (take l.i l.order)))

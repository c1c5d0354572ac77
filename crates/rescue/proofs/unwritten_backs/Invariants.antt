use mathlib.Core.Path.{◌≡◌}
use mathlib.Core.List.{map}
use lib.ListN.{length, take}
use Rattle.image.specs.Chip.{spare_only}
use Rattle.classes.specs.Columns.{named}
use Rattle.rescue.specs.Beside.{is_unwritten}
use Rattle.rescue.proofs.unwritten_backs.Given as goal

abbrev pub invariant-loop-i : goal.invariant-loop-i
invariant-loop-i l = (take l.i l.unwritten ≡ map (named l.z (spare_only l.spare) (is_unwritten l.z (spare_only l.spare))) (take l.i l.columns.order.now)) × (length l.unwritten ≡ 256)

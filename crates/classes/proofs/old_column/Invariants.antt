use Rattle.classes.specs.Columns.{named}
use Rattle.image.specs.Chip.{spare_only}
use Rattle.model.specs.Recover.{is_old_copy}
use lib.ListN.{take, drop}
use mathlib.Core.List.{map, ◌++◌}
use mathlib.Core.Path.{◌≡◌}
use Rattle.classes.proofs.old_column.Given as goal

abbrev pub invariant-loop-i : goal.invariant-loop-i
invariant-loop-i l = l.out ≡ take l.i (map (named l.z (spare_only l.spare) (is_old_copy l.z (spare_only l.spare))) l.order) ++ drop l.i l.initial.out

use Rattle.classes.specs.Columns.{named, is_kind}
use Rattle.image.specs.Chip.{spare_only}
use lib.ListN.{take, drop}
use mathlib.Core.List.{map, ◌++◌}
use mathlib.Core.Path.{◌≡◌}
use Rattle.classes.proofs.fill.Given as goal

abbrev pub invariant-loop-i : goal.invariant-loop-i
invariant-loop-i l = l.out ≡ take l.i (map (named l.z (spare_only l.spare) (is_kind l.z (spare_only l.spare) l.kind)) l.order) ++ drop l.i l.initial.out

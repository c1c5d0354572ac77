use Rattle.classes.specs.Columns.{occurring}
use lib.ListN.{take, drop}
use mathlib.Core.List.{map, ◌++◌}
use mathlib.Core.Path.{◌≡◌}
use Rattle.classes.proofs.all_occurring.Given as goal

abbrev pub invariant-loop-i : goal.invariant-loop-i
invariant-loop-i l = l.out ≡ take l.i (map (occurring l.n l.other) l.column) ++ drop l.i l.initial.out

use lib.ListN.{length, take, drop}
use Rattle.classes.specs.Columns.{last_of_each}
use mathlib.Core.List.{◌++◌}
use mathlib.Core.Path.{◌≡◌}
use Rattle.classes.proofs.last_of_each.Given as goal

abbrev pub invariant-loop-i : goal.invariant-loop-i
invariant-loop-i l = (length l.column ≡ length l.initial.column) × (l.column ≡ take l.i (last_of_each l.initial.column) ++ drop l.i l.initial.column)

use lib.ListN.{length, take, drop}
use Rattle.classes.specs.Columns.{is_named, all_but}
use Rattle.lists.specs.Lists.{keep}
use mathlib.Core.List.{◌++◌}
use mathlib.Core.Path.{◌≡◌}
use Rattle.classes.proofs.all_but.Given as goal

abbrev pub invariant-loop-i : goal.invariant-loop-i
invariant-loop-i l = (l.newer ≡ length (keep is_named (drop l.i l.initial.candidates))) × (l.candidates ≡ take l.i l.initial.candidates ++ drop l.i (all_but l.n l.initial.candidates l.column))

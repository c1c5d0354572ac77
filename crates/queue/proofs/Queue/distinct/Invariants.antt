use mathlib.Core.Path.{◌≡◌}
use lib.ListN.{drop}
use Rattle.lists.specs.Lists.{distinct}
use Rattle.model.specs.State.{backs}
use Rattle.queue.proofs.Queue.distinct.Given as goal

abbrev pub invariant-loop-i : goal.invariant-loop-i
invariant-loop-i l = distinct (backs l.entries) ≡ distinct (backs (drop l.i l.entries))

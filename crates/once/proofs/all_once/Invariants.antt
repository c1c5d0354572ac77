use mathlib.Core.Path.{◌≡◌}
use lib.Dec.{eqb}
use lib.ListN.{get_or}
use Rattle.lists.specs.Lists.{all_below}
use Rattle.once.proofs.all_once.Given as goal

abbrev pub invariant-loop-count : goal.invariant-loop-count
invariant-loop-count l = l.once ≡ all_below l.count-index (λ k. eqb (get_or l.counts k 0) 1)

use Rattle.ledger.specs.Halves.{taken}
use Rattle.image.specs.Chip.{spare_only}
use Rattle.lists.specs.Lists.{all_below}
use mathlib.Core.Bool.{true}
use mathlib.Core.Path.{◌≡◌}
use Rattle.ledger.proofs.entered.Given as goal

abbrev pub invariant-loop-k : goal.invariant-loop-k
invariant-loop-k l = all_below l.k (taken l.z (spare_only l.spare) l.l) ≡ true

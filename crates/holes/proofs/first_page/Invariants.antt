use Rattle.image.specs.Chip.{spare_only}
use Rattle.model.specs.Ledger.{first_of}
use Rattle.model.specs.Spare.{programmed}
use mathlib.Core.Bool.{false}
use mathlib.Core.Path.{◌≡◌}
use Rattle.holes.proofs.first_page.Given as goal

abbrev pub invariant-loop-k : goal.invariant-loop-k
invariant-loop-k l = programmed (first_of l.z (spare_only l.spare) l.c l.k) ≡ false

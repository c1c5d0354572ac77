use Rattle.rules.specs.Pages.{NoKinds}
use Rattle.image.specs.Chip.{spare_only}
use Rattle.rules.proofs.next_kind.Given as goal

abbrev pub invariant-loop-e : goal.invariant-loop-e
invariant-loop-e l = NoKinds l.z (spare_only l.spare) l.c l.e

use Rattle.std.proofs.Common.{◌≡◌, ◌<◌, drop}
use Rattle.model.specs.Operations.{least_of}
use Rattle.image.specs.Chip.{spare_only}
use Rattle.victim.proofs.least_of.Given as goal

abbrev pub invariant-loop-e : goal.invariant-loop-e
invariant-loop-e l = (l.least.cache < l.z.c) × (least_of l.z (spare_only l.spare) l.fn.first l.rest ≡ least_of l.z (spare_only l.spare) l.least (drop l.e-index l.rest))

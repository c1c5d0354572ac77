use mathlib.Core.Path.{◌≡◌}
use lib.ListN.{take}
use Rattle.lists.specs.Lists.{all}
use Rattle.fits.specs.Fits.{agrees}
use Rattle.image.specs.Chip.{spare_only}
use Rattle.fits.proofs.queue_agrees.Given as goal

abbrev pub invariant-loop-e : goal.invariant-loop-e
invariant-loop-e l = l.agree ≡ all (agrees l.z (spare_only l.spare) l.written) (take l.e-index l.e-items)

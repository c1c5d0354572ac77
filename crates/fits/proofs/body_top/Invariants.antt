use mathlib.Core.Path.{◌≡◌}
use Rattle.lists.specs.Lists.{max_below}
use Rattle.model.specs.Image.{epoch_of}
use Rattle.image.specs.Chip.{spare_only}
use Rattle.fits.proofs.body_top.Given as goal

abbrev pub invariant-loop-c : goal.invariant-loop-c
invariant-loop-c l = l.top ≡ max_below l.c (epoch_of l.z (spare_only l.spare))

use mathlib.Core.Path.{◌≡◌}
use lib.ListN.{take}
use Rattle.lists.specs.Lists.{all}
use Rattle.model.specs.State.{all_blank}
use Rattle.image.specs.Chip.{spare_only}
use Rattle.fits.proofs.free_blank.Given as goal

abbrev pub invariant-loop-c : goal.invariant-loop-c
invariant-loop-c l = l.blank ≡ all (all_blank l.z (spare_only l.spare)) (take l.c-index l.c-items)

use mathlib.Core.Path.{◌≡◌}
use Rattle.image.specs.Chip.{spare_only}
use Rattle.model.specs.Image.{page_blank}
use Rattle.lists.specs.Lists.{count_below}
use Rattle.image.proofs.blanks.Given as goal

abbrev pub invariant-loop-k : goal.invariant-loop-k
invariant-loop-k l = l.count ≡ count_below l.k (page_blank l.z (spare_only l.spare) l.c)

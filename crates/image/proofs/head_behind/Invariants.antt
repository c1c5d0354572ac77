use mathlib.Core.Path.{◌≡◌}
use mathlib.Core.Bool.{true}
use Rattle.lists.specs.Lists.{all_below}
use Rattle.model.specs.Image.{page_spoiled}
use Rattle.image.specs.Chip.{spare_only}
use Rattle.image.proofs.head_behind.Given as goal

abbrev pub invariant-loop-k : goal.invariant-loop-k
invariant-loop-k l = all_below l.k (page_spoiled l.z (spare_only l.spare) l.c) ≡ true

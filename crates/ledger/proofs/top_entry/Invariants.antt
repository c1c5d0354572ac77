use Rattle.image.specs.Chip.{spare_only}
use Rattle.model.specs.State.{entry_epoch}
use Rattle.lists.specs.Lists.{max_below}
use mathlib.Core.Path.{◌≡◌}
use Rattle.ledger.proofs.top_entry.Given as goal

abbrev pub invariant-loop-i : goal.invariant-loop-i
invariant-loop-i l = l.top ≡ max_below l.i (entry_epoch l.z (spare_only l.spare))

use Rattle.image.specs.Chip.{spare_only}
use Rattle.model.specs.Ledger.{names}
use Rattle.model.specs.Sizes.{body}
use Rattle.lists.specs.Lists.{any_below}
use lib.Dec.{ltb}
use lib.ListN.{length, get_or}
use mathlib.Core.Bool.{false, ◌&&◌}
use mathlib.Core.Path.{◌≡◌}
use Prim.Native.Nat.{ℕ}
use Rattle.ledger.proofs.named.Given as goal

abbrev pub invariant-loop-i : goal.invariant-loop-i
invariant-loop-i l = (length l.marks ≡ 256) × ((x : ℕ) → get_or l.marks x false ≡ (ltb x (body l.z) && any_below l.i (names l.z (spare_only l.spare) x)))

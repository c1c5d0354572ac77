use Rattle.image.specs.Chip.{spare_only}
use Rattle.model.specs.Stores.{tag_of}
use Rattle.model.specs.Spare.{blank}
use mathlib.Core.Bool.{false}
use mathlib.Core.Path.{◌≡◌}
use Prim.Native.Nat.{ℕ, ◌<◌}
use Rattle.image.proofs.pages_used.Given as goal

abbrev pub invariant-loop-k : goal.invariant-loop-k
invariant-loop-k l = (j : ℕ) → j < l.k → blank (tag_of l.z (spare_only l.spare) l.c j) ≡ false

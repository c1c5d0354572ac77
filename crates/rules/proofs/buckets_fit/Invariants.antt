use Rattle.image.specs.Chip.{spare_only}
use Rattle.model.specs.Image.{bucket_fits}
use Rattle.lists.specs.Lists.{all_below}
use mathlib.Core.Bool.{true}
use mathlib.Core.Path.{◌≡◌}
use Prim.Native.Nat.{◌-◌, ◌≤◌}
use Rattle.rules.proofs.buckets_fit.Given as goal

abbrev pub invariant-loop-bucket : goal.invariant-loop-bucket
invariant-loop-bucket l = (l.bucket ≤ l.end) × (all_below l.bucket (bucket_fits l.z (spare_only l.spare)) ≡ true)

abbrev pub decreases-loop-bucket : goal.decreases-loop-bucket
decreases-loop-bucket l = l.end - l.bucket

use Prim.Native.Nat.{◌-◌, ◌≤◌, ◌<◌}
use mathlib.Core.Path.{◌≡◌}
use mathlib.Core.Bool.{true}
use lib.ListN.{length}
use Rattle.model.specs.Sizes.{disk_size}
use Rattle.model.specs.Recover.{is_rescued}
use Rattle.geometry.specs.Geometry.{device}
use Rattle.rescue.proofs.Reached.{Reached}
use Rattle.rescue.proofs.rescue_each.Given as goal

abbrev pub invariant-loop-b : goal.invariant-loop-b
invariant-loop-b l = (l.b ≤ l.end) × (length l.disk ≡ disk_size l.z) × Reached l.z l.flash l.spare l.initial.disk l.initial.left l.b l.disk l.left
    × (l.b < l.end → is_rescued l.z (device l.flash l.spare l.initial.disk) l.b ≡ true)

abbrev pub decreases-loop-b : goal.decreases-loop-b
decreases-loop-b l = l.end - l.b

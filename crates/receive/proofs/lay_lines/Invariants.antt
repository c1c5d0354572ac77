use Prim.Native.Nat.{◌+◌, ◌-◌, ◌≤◌}
use mathlib.Core.Path.{◌≡◌}
use mathlib.Core.List.{[]}
use lib.ListN.{length}
use Rattle.model.specs.Sizes.{flash_size, spare_size}
use Rattle.geometry.specs.Geometry.{device}
use Rattle.receive.proofs.Walked.{Laid}
use Rattle.receive.proofs.lay_lines.Given as goal

abbrev pub invariant-loop-at : goal.invariant-loop-at
invariant-loop-at l = (l.at ≤ length l.text + 1) × (length l.flash ≡ flash_size l.z) × (length l.spare ≡ spare_size l.z) × Laid l.z l.text (device l.initial.flash l.initial.spare []) (device l.flash l.spare []) l.at

abbrev pub decreases-loop-at : goal.decreases-loop-at
decreases-loop-at l = length l.text + 1 - l.at

use Rattle.overlay.specs.Runs.{EndsBy, beneath}
use Rattle.overlay.specs.Window.{chip}
use Rattle.model.specs.Recover.{merge_all}
use Rattle.model.specs.Sizes.{bucket_size}
use Rattle.lists.specs.Lists.{part, splice}
use lib.ListN.{length, get_or}
use mathlib.Core.Path.{◌≡◌}
use Prim.Native.Nat.{◌+◌, ◌-◌, ◌*◌, ◌≤◌, ◌<◌}
use Rattle.overlay.proofs.lay_within.Given as goal

abbrev pub invariant-loop-x : goal.invariant-loop-x
invariant-loop-x l = (l.x ≤ l.n) × (length l.flash ≡ length l.initial.flash)
    × (0 < length l.list → EndsBy l.z l.spare (get_or l.list (length l.list - 1) 0) l.x l.newest)
    × (l.flash ≡ splice l.initial.flash (l.target * bucket_size l.z + l.x) (part (merge_all l.z (chip l.initial.flash l.spare) l.list (beneath l.z l.initial.flash l.base l.under)) l.x (l.n - l.x)))

abbrev pub decreases-loop-x : goal.decreases-loop-x
decreases-loop-x l = l.x

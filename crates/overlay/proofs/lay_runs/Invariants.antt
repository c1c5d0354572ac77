use Rattle.overlay.specs.Runs.{EndsBy, Shows}
use Rattle.overlay.specs.Window.{chip}
use Rattle.model.specs.Recover.{merge_all}
use Rattle.model.specs.Sizes.{bucket_size}
use Rattle.lists.specs.Lists.{part, splice}
use lib.ListN.{length, get_or}
use mathlib.Core.List.{List}
use mathlib.Core.Path.{◌≡◌}
use Prim.Native.Nat.{ℕ, ◌+◌, ◌-◌, ◌≤◌, ◌<◌}
use Rattle.overlay.proofs.lay_runs.Given as goal

abbrev pub invariant-loop-x : goal.invariant-loop-x
invariant-loop-x l = (l.from ≤ l.x) × (l.x ≤ l.from + length l.initial.window) × (length l.window ≡ length l.initial.window)
    × (0 < length l.list → EndsBy l.z l.spare (get_or l.list (length l.list - 1) 0) l.x l.newest)
    × ((whole : List ℕ) → length whole ≡ bucket_size l.z → Shows whole l.under l.from l.initial.window
    → l.window ≡ splice l.initial.window (l.x - l.from) (part (merge_all l.z (chip l.flash l.spare) l.list whole) l.x (l.from + length l.initial.window - l.x)))

abbrev pub decreases-loop-x : goal.decreases-loop-x
decreases-loop-x l = l.x

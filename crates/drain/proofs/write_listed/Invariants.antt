use mathlib.Core.Path.{◌≡◌}
use mathlib.Core.Bool.{true}
use Prim.Native.Nat.{◌≤◌, ◌<◌, ◌-◌}
use lib.ListN.{length}
use Rattle.model.specs.Sizes.{disk_size}
use Rattle.model.specs.Operations.{unclean}
use Rattle.geometry.specs.Geometry.{device}
use Rattle.meter.specs.Run.{running, run_all}
use Rattle.state.specs.View.{places_of}
use Rattle.drain.proofs.Stores.{stores_to}
use Rattle.drain.proofs.Ahead.{Ahead}
use Rattle.drain.proofs.write_listed.Given as goal

abbrev pub invariant-loop-b : goal.invariant-loop-b
invariant-loop-b l = (l.b ≤ l.s.sizes.b)
    × (length l.disk ≡ disk_size l.s.sizes)
    × (l.b < l.s.sizes.b → unclean l.s.sizes (device l.flash l.spare l.initial.disk) (places_of l.s) l.b ≡ true)
    × (running l.flash l.spare l.disk l.left ≡ run_all l.s.sizes (stores_to l.s.sizes (device l.flash l.spare l.initial.disk) (places_of l.s) l.b) (running l.flash l.spare l.initial.disk l.initial.left))
    × Ahead l.s.sizes l.flash l.spare l.b l.initial.disk l.disk

abbrev pub decreases-loop-b : goal.decreases-loop-b
decreases-loop-b l = l.s.sizes.b - l.b

-- The one struct of a state has that view; what a stopped struct shows; queues that have places.
use mathlib.Core.Path.{◌≡◌, refl}
use mathlib.Core.List.{[], ◌∷◌}
use native.Mathlib.Omega.{arith}
use lib.ListN.{length, length-take}
use lib.Dec.{leb}
use Rattle.lists.specs.Lists.{every}
use Rattle.lists.proofs.Arrays.{padded_view, padded_whole, padded-length}
use Rattle.model.specs.State.{State, stopped}
use Rattle.fifo.specs.View.{list_of}
use Rattle.queue.specs.View.{entries_of, no_entry}
use Rattle.state.specs.View.{has_places, view_of, state_of, halted}
use Rattle.state.specs.declared.State.{State as Struct}

pub view_state : (s : State) → view_of (state_of s) ≡ s
unfolding view_of state_of
view_state s =
    rw (padded_view 64 no_entry s.reads, padded_view 64 no_entry s.writes, padded_view 256 0 s.gc, padded_view 256 0 s.free, padded_whole (length s.reads) no_entry s.reads (omega arith), padded_whole (length s.writes) no_entry s.writes (omega arith), padded_whole (length s.gc) 0 s.gc (omega arith), padded_whole (length s.free) 0 s.free (omega arith))

pub view_halted : (s : Struct) → view_of (halted s) ≡ stopped (view_of s)
unfolding view_of stopped
view_halted s = refl

-- a queue has places for what its length says, which is how long it is seen
pub places_counted : (s : Struct) → has_places s
    ≡ every (leb (length (view_of s).reads) 64 ∷ leb (length (view_of s).writes) 64 ∷ leb (length (view_of s).gc) 256 ∷ leb (length (view_of s).free) 256 ∷ [])
unfolding has_places view_of
places_counted s =
    let reads : length (view_of s).reads ≡ s.reads.len = padded-length s.reads.len no_entry (entries_of s.reads) (rw length-take (omega arith)) in
    let writes : length (view_of s).writes ≡ s.writes.len = padded-length s.writes.len no_entry (entries_of s.writes) (rw length-take (omega arith)) in
    let gc : length (view_of s).gc ≡ s.gc.len = padded-length s.gc.len 0 (list_of s.gc) (rw length-take (omega arith)) in
    let free : length (view_of s).free ≡ s.free.len = padded-length s.free.len 0 (list_of s.free) (rw length-take (omega arith)) in
    rw (reads, writes, gc, free)

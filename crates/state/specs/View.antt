-- The struct of the state, seen as document 01's state.
use Rattle.std.specs.Prelude.{◌+◌, ◌≤◌, Bool, false, [], ◌∷◌, length, leb}
use Rattle.lists.specs.Lists.{every}
use Rattle.lists.specs.Arrays.{padded}
use Rattle.model.specs.State.{State}
use Rattle.fifo.specs.View.{list_of, fifo_of}
use Rattle.queue.specs.View.{entries_of, no_entry, queue_of}
use Rattle.state.specs.declared.State.{State as Struct}

-- what stands in the places of the struct's queues
abbrev pub places_of : Struct → State
places_of s = record {
  sizes = s.sizes;
  running = s.running;
  reads = entries_of s.reads;
  writes = entries_of s.writes;
  gc = list_of s.gc;
  free = list_of s.free;
  accepted = s.accepted;
  next = s.next;
}

-- The state that a caller gives: each queue is as long as its length says, and zeros stand where the array has no more places. No queue that number 5
-- passes is longer than its array, so behind that test it is what stands in the places.
unfoldable pub view_of : Struct → State
view_of s = record {
  sizes = s.sizes;
  running = s.running;
  reads = padded s.reads.len no_entry (entries_of s.reads);
  writes = padded s.writes.len no_entry (entries_of s.writes);
  gc = padded s.gc.len 0 (list_of s.gc);
  free = padded s.free.len 0 (list_of s.free);
  accepted = s.accepted;
  next = s.next;
}

-- each queue's array has a place for all that its length says
unfoldable pub has_places : Struct → Bool
has_places s = every (leb s.reads.len 64 ∷ leb s.writes.len 64 ∷ leb s.gc.len 256 ∷ leb s.free.len 256 ∷ [])

-- the one struct of a state: zeros in the unused places of its queues
unfoldable pub state_of : State → Struct
state_of s = record {
  sizes = s.sizes;
  running = s.running;
  reads = queue_of s.reads;
  writes = queue_of s.writes;
  gc = fifo_of s.gc;
  free = fifo_of s.free;
  accepted = s.accepted;
  next = s.next;
}

-- the same struct, not running
abbrev pub halted : Struct → Struct
halted s = record { sizes = s.sizes; running = false; reads = s.reads; writes = s.writes; gc = s.gc; free = s.free; accepted = s.accepted; next = s.next }

-- what the struct has places for
pub record Bounded (s : State) : Type 0 where
  pub reads : length s.reads ≤ 64
  pub writes : length s.writes ≤ 64
  pub total : length s.reads + length s.writes + length s.gc + length s.free ≤ 256
  pub next : s.next ≤ 18446744073709551615

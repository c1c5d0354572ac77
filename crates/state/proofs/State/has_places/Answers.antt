use mathlib.Core.Bool.{◌&&◌}
use lib.Dec.{leb}
use Rattle.lists.proofs.Tests.{and_left, and_right, every-four}
use Rattle.state.specs.View.{has_places, view_of}
use Rattle.state.proofs.State.has_places.Goals as goal

pub returns : goal.returns
unfolding has_places view_of
returns c = let s = c.args.self in
    let free = c.has_places in
    let gc = c.has_places-gc in
    let writes = c.has_places-writes in
    let reads = c.has_places-reads in record {
      value = rw (free.ensures.value, gc.ensures.value, writes.ensures.value, reads.ensures.value) (every-four (leb s.reads.len 64) (leb s.writes.len 64) (leb s.gc.len 256) (leb s.free.len 256));
      self_value = λ h.
          let three = and_left (reads.result && writes.result && gc.result) free.result h in
          let two = and_left (reads.result && writes.result) gc.result three in
          rw (free.ensures.self_value (and_right (reads.result && writes.result && gc.result) free.result h), gc.ensures.self_value (and_right (reads.result && writes.result) gc.result three), writes.ensures.self_value (and_right reads.result writes.result two), reads.ensures.self_value (and_left reads.result writes.result two));
    }

use Prim.Native.Nat.{◌<◌}
use mathlib.Core.Path.{sym, ◌∙◌}
use native.Mathlib.Omega.{arith}
use Rattle.model.specs.Sizes.{bucket_size, body}
use Rattle.model.specs.Stores.{disk_bytes}
use Rattle.model.proofs.Limits.{on_chip}
use Rattle.model.proofs.Frames.{length_disk}
use Rattle.geometry.specs.Geometry.{device}
use Rattle.geometry.proofs.Passed.{lengths_of}
use Rattle.geometry.proofs.Places.{bucket_data}
use Rattle.queue.specs.View.{entries_of}
use Rattle.queue.proofs.Found.{found_some, found_none}
use Rattle.state.specs.View.{places_of}
use Rattle.steps.proofs.Inside.{listed_inside}
use Rattle.gather.proofs.Gathered.{listed, over_read, over_disk}
use Rattle.gather.proofs.lay_merged.Goals as goal

pub lay_piece-requires : goal.lay_piece-requires
unfolding bucket_size
lay_piece-requires c =
    let a = c.args in
    let p = c.requires in
    let z = a.s.sizes in
    let copy = c.in-Some.copy in
    let own = found_some a.b (entries_of a.s.reads) copy (sym c.find.ensures ∙ c.in-Some.is) in
    let inside : copy.cache < z.c = on_chip z _ (rw (← own.cache) p.reads_bound.0) in
    record {
      readable = p.readable;
      list_value = rw (listed _ c.logs_of-logs.ensures c.as_slice-list.ensures) (listed_inside (body z) a.b (entries_of a.s.writes) p.reads_bound.1);
      z_in_bounds = omega (arith, bucket_data z copy.cache inside, p.readable.flash_length);
      window_bound = omega (arith, p.window_len_bound);
    }

pub lay_over-requires : goal.lay_over-requires
lay_over-requires c =
    let a = c.args in
    let p = c.requires in
    record {
      readable = p.readable;
      list_value = rw (listed _ c.logs_of-logs.ensures c.as_slice-list.ensures) (listed_inside (body a.s.sizes) a.b (entries_of a.s.writes) p.reads_bound.1);
      window_bound = omega (arith, p.window_len_bound);
    }

pub returns-in-Some : goal.returns-in-Some
returns-in-Some c =
    let a = c.args in
    let own = found_some a.b (entries_of a.s.reads) c.in-Some.copy (sym c.find.ensures ∙ c.in-Some.is) in
    let logs = listed _ c.logs_of-logs.ensures c.as_slice-list.ensures in
    λ disk sources shows. rw (over_read a.s.sizes (places_of a.s) a.flash.now a.spare.now disk a.b logs own.held (sym own.cache)) at c.lay_piece.ensures

pub returns-in-None : goal.returns-in-None
unfolding disk_bytes
returns-in-None c =
    let a = c.args in
    let z = a.s.sizes in
    let none = found_none a.b (entries_of a.s.reads) (sym c.find.ensures ∙ c.in-None.is) in
    let logs = listed _ c.logs_of-logs.ensures c.as_slice-list.ensures in
    λ disk sources shows.
    let d = device a.flash.now a.spare.now disk in
    rw (over_disk z (places_of a.s) a.flash.now a.spare.now disk a.b logs none.held) at
    (c.lay_over.ensures (disk_bytes z d a.b) (length_disk z d (lengths_of sources.lent) a.b sources.back) shows)

use Prim.Native.Nat.{◌<◌}
use mathlib.Core.Path.{sym, ◌∙◌}
use native.Mathlib.Omega.{arith}
use Rattle.model.specs.Sizes.{bucket_size, disk_size, body}
use Rattle.model.proofs.Limits.{on_chip}
use Rattle.geometry.proofs.Places.{nth_inside, bucket_data}
use Rattle.queue.specs.View.{entries_of}
use Rattle.queue.proofs.Found.{found_some, found_none}
use Rattle.state.specs.View.{places_of}
use Rattle.steps.proofs.Inside.{listed_inside}
use Rattle.gather.proofs.Gathered.{listed, readable, over_read, over_disk}
use Rattle.gather.proofs.merged_range.Goals as goal

pub lay_piece-requires : goal.lay_piece-requires
unfolding bucket_size
lay_piece-requires c =
    let a = c.args in
    let p = c.requires.sources in
    let z = a.s.sizes in
    let copy = c.in-Some.copy in
    let own = found_some a.b (entries_of a.s.reads) copy (sym c.find.ensures ∙ c.in-Some.is) in
    let inside : copy.cache < z.c = on_chip z _ (rw (← own.cache) p.read) in
    record {
      readable = readable p;
      list_value = rw (listed _ c.logs_of-logs.ensures c.as_slice-list.ensures) (listed_inside (body z) a.b (entries_of a.s.writes) p.write);
      z_in_bounds = omega (arith, bucket_data z copy.cache inside, p.lent.flash_length);
      window_bound = c.requires.window_bound;
    }

pub lay_piece-requires-in-None : goal.lay_piece-requires-in-None
unfolding disk_size
lay_piece-requires-in-None c =
    let a = c.args in
    let p = c.requires.sources in
    let z = a.s.sizes in
    record {
      readable = readable p;
      list_value = rw (listed _ c.logs_of-logs.ensures c.as_slice-list.ensures) (listed_inside (body z) a.b (entries_of a.s.writes) p.write);
      z_in_bounds = omega (arith, nth_inside a.b z.b (bucket_size z) p.back, p.lent.disk_length);
      window_bound = c.requires.window_bound;
    }

pub returns-in-Some : goal.returns-in-Some
returns-in-Some c =
    let a = c.args in
    let own = found_some a.b (entries_of a.s.reads) c.in-Some.copy (sym c.find.ensures ∙ c.in-Some.is) in
    let logs = listed _ c.logs_of-logs.ensures c.as_slice-list.ensures in
    rw (over_read a.s.sizes (places_of a.s) a.flash.now a.spare.now a.disk.now a.b logs own.held (sym own.cache)) at c.lay_piece.ensures

pub returns-in-None : goal.returns-in-None
returns-in-None c =
    let a = c.args in
    let none = found_none a.b (entries_of a.s.reads) (sym c.find.ensures ∙ c.in-None.is) in
    let logs = listed _ c.logs_of-logs.ensures c.as_slice-list.ensures in
    rw (over_disk a.s.sizes (places_of a.s) a.flash.now a.spare.now a.disk.now a.b logs none.held) at c.lay_piece-in-None.ensures

use mathlib.Core.Path.{◌∙◌}
use native.Mathlib.Omega.{arith}
use Rattle.model.specs.Stores.{disk_bytes}
use Rattle.model.specs.Steps.{merged}
use Rattle.geometry.specs.Geometry.{device}
use Rattle.state.specs.View.{places_of}
use Rattle.units.proofs.Spliced.{bytes_inside, lent_order, lent_end, lent_most, lent_shows, laid_length, units_laid}
use Rattle.gather.proofs.Gathered.{readable, merged_size}
use Rattle.gather.proofs.write_merged.Goals as goal

pub place-place-requires : goal.place-place-requires
place-place-requires c = (c.requires.limits, c.requires.back)

pub slice_bounds-lay_merged-count : goal.slice_bounds-lay_merged-count
slice_bounds-lay_merged-count c = let x = c.args in
    omega (arith, lent_order x.s.sizes x.b x.disk.now x.meter (bytes_inside _ _ _ c.requires.back c.requires.lent.disk_length) c.place-place.ensures)

pub slice_bounds-lay_merged-start : goal.slice_bounds-lay_merged-start
slice_bounds-lay_merged-start c = let x = c.args in
    omega (arith, lent_order x.s.sizes x.b x.disk.now x.meter (bytes_inside _ _ _ c.requires.back c.requires.lent.disk_length) c.place-place.ensures)

pub slice_bounds-lay_merged-end : goal.slice_bounds-lay_merged-end
slice_bounds-lay_merged-end c = let x = c.args in
    omega (arith, lent_end x.s.sizes x.b x.disk.now x.meter (bytes_inside _ _ _ c.requires.back c.requires.lent.disk_length) c.place-place.ensures)

pub lay_merged-requires : goal.lay_merged-requires
lay_merged-requires c = let x = c.args in
    let inside = bytes_inside x.s.sizes x.b x.disk.now c.requires.back c.requires.lent.disk_length in
    record {
      readable = readable c.requires;
      reads_bound = (c.requires.read, c.requires.write);
      window_len_bound = lent_most x.s.sizes x.b x.disk.now x.meter inside c.place-place.ensures;
    }

pub returns : goal.returns
unfolding disk_bytes
returns c = let x = c.args in
    let z = x.s.sizes in
    let disk = x.disk.now in
    let place = c.place-place.ensures in
    let bytes = merged z (places_of x.s) (device x.flash.now x.spare.now disk) x.b in
    let inside = bytes_inside z x.b disk c.requires.back c.requires.lent.disk_length in
    let laid = c.lay_merged.ensures disk c.requires (lent_shows z x.b disk x.meter inside place) in
    let size = merged_size c.requires in
    record {
      result_after = units_laid z x.b disk x.meter inside place bytes size laid c.spent.ensures x.flash.now x.spare.now;
      disk_len = laid_length z x.b disk x.meter inside place bytes size laid ∙ c.requires.lent.disk_length;
    }

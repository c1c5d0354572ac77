use native.Mathlib.Omega.{arith}
use Rattle.model.specs.Stores.{disk_bytes}
use Rattle.model.specs.Recover.{rescued, rescue_stores}
use Rattle.geometry.specs.Geometry.{device}
use Rattle.units.proofs.Spliced.{bytes_inside, lent_end, lent_most, lent_shows, units_laid}
use Rattle.rescue.proofs.Bytes.{rescued_size, readable_of}
use Rattle.rescue.proofs.rescue_one.Goals as goal

pub slice_bounds-lay_rescued-end : goal.slice_bounds-lay_rescued-end
slice_bounds-lay_rescued-end c =
    let a = c.args in
    let inside = bytes_inside a.z a.b a.disk.now c.requires.b_lt_b.0 c.requires.recoverable.lent.disk_length in
    omega (arith, lent_end a.z a.b a.disk.now a.meter inside c.place-place.ensures)

pub lay_rescued-requires-clause-window_len_bound : goal.lay_rescued-requires-clause-window_len_bound
lay_rescued-requires-clause-window_len_bound c =
    let a = c.args in
    let inside = bytes_inside a.z a.b a.disk.now c.requires.b_lt_b.0 c.requires.recoverable.lent.disk_length in
    lent_most a.z a.b a.disk.now a.meter inside c.place-place.ensures

pub returns-clause-result_after : goal.returns-clause-result_after
unfolding rescue_stores disk_bytes
returns-clause-result_after c =
    let a = c.args in
    let disk = a.disk.now in
    let back = c.requires.b_lt_b in
    let disk_length = c.requires.recoverable.lent.disk_length in
    let bytes = rescued a.z (device a.flash.now a.spare.now disk) a.b in
    let size = rescued_size (readable_of c.requires.recoverable) disk disk_length a.b back.0 back.1 in
    let place = c.place-place.ensures in
    let inside = bytes_inside a.z a.b disk back.0 disk_length in
    let laid = c.lay_rescued.ensures disk disk_length (lent_shows a.z a.b disk a.meter inside place) in
    units_laid a.z a.b disk a.meter inside place bytes size laid c.spent.ensures a.flash.now a.spare.now

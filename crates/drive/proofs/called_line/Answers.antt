-- `drive::called_line` meets its contract.
use lib.ListN.{length-take}
use native.Mathlib.Omega.{arith}
use Rattle.calls.proofs.Asked.{two_small}
use Rattle.frame.proofs.Fits.{fits_digits}
use Rattle.geometry.specs.Geometry.{device}
use Rattle.model.specs.Driving.{bytes_of, allowance}
use Rattle.drive.proofs.Lines.{line_called, line_stores, line_room_lem}
use Rattle.drive.proofs.Requests.{asked_framed, read_short}
use Rattle.drive.proofs.called_line.Goals as goal

pub make_in_arrays-made-requires : goal.make_in_arrays-made-requires
make_in_arrays-made-requires c =
    let p = c.requires in
    record { framed = asked_framed c.args.line.now p.line_value.1 p.line_value.0; most_read_in_bounds = p.arrays.1.buffer_room; arrays = (p.arrays.0, p.arrays.2) }

pub slice_bounds-print-end : goal.slice_bounds-print-end
slice_bounds-print-end c =
    let a = c.args in
    let made = c.make_in_arrays-made in
    let short = read_short a.z a.line.now (fits_digits a.line.now c.requires.line_value.0) in
    omega (arith, made.ensures.read_value, short, made.auto.buffer, c.requires.arrays.1.buffer_room)

pub slice_bounds-print-end-2 : goal.slice_bounds-print-end-2
slice_bounds-print-end-2 c =
    let a = c.args in
    let made = c.make_in_arrays-made in
    let short = read_short a.z a.line.now (fits_digits a.line.now c.requires.line_value.0) in
    simp length-take (omega (arith, made.ensures.read_value, short, made.auto.buffer, c.requires.arrays.1.buffer_room))

pub print-length-requires : goal.print-length-requires
unfolding allowance
print-length-requires c = let make-in-arrays = c.make_in_arrays-made in
    let a = c.args in
    let d = device a.flash.now a.spare.now a.disk.now in
    let made = make-in-arrays.ensures in
    let room = c.requires.arrays.1.out_room in (
      omega (arith, line_stores a.z a.format a.r d (bytes_of a.line.now) _ made.outcome_after, two_small a.line.now 1 (fits_digits a.line.now c.requires.line_value.0)),
      omega arith,
      λ e. simp length-take (omega (arith, line_room_lem a.z a.format a.r d (bytes_of a.line.now) _ made.outcome_after e, made.read_value, c.requires.arrays.2.disk_room)),
    )

pub returns : goal.returns
returns c = let make-in-arrays = c.make_in_arrays-made in
    let a = c.args in record {
      out_after = line_called a.z a.format a.r (device a.flash.now a.spare.now a.disk.now) (bytes_of a.line.now) _ make-in-arrays.ensures.outcome_after
          (record { recorder = c.settle-recorder.result; length = c.print-length.result }) _ (rw c.is_done.ensures at c.settle-recorder.ensures) c.print-length.ensures.out_after;
      length_in_bounds = c.print-length.ensures.upper_bound;
    }

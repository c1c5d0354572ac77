-- `calls::make_in_arrays` meets its contract.
use lib.ListN.{length-take}
use native.Mathlib.Omega.{arith}
use mathlib.Core.Path.{ap}
use Rattle.geometry.specs.Geometry.{device}
use Rattle.model.specs.Driving.{lend, give_back}
use Rattle.calls.specs.Arrays.{in_arrays, seen}
use Rattle.calls.proofs.make_in_arrays.Goals as goal

pub slice_bounds-make-end : goal.slice_bounds-make-end
slice_bounds-make-end c = omega (arith, c.lengths_of-lent.ensures, c.requires.arrays.0.flash_length, c.requires.arrays.1.flash_room)

pub slice_bounds-make-end-2 : goal.slice_bounds-make-end-2
slice_bounds-make-end-2 c = simp length-take (omega (arith, c.lengths_of-lent.ensures, c.requires.arrays.0.flash_length, c.requires.arrays.1.flash_room))

pub slice_bounds-make-end-3 : goal.slice_bounds-make-end-3
slice_bounds-make-end-3 c = omega (arith, c.lengths_of-lent.ensures, c.requires.arrays.0.spare_length, c.requires.arrays.1.spare_room)

pub slice_bounds-make-end-4 : goal.slice_bounds-make-end-4
slice_bounds-make-end-4 c = simp length-take (omega (arith, c.lengths_of-lent.ensures, c.requires.arrays.0.spare_length, c.requires.arrays.1.spare_room))

pub slice_bounds-make-end-5 : goal.slice_bounds-make-end-5
slice_bounds-make-end-5 c = omega (arith, c.lengths_of-lent.ensures, c.requires.arrays.0.disk_length, c.requires.arrays.1.disk_room)

pub slice_bounds-make-end-6 : goal.slice_bounds-make-end-6
slice_bounds-make-end-6 c = simp length-take (omega (arith, c.lengths_of-lent.ensures, c.requires.arrays.0.disk_length, c.requires.arrays.1.disk_room))

pub returns : goal.returns
unfolding lend give_back in_arrays seen
returns c = let make = c.make in
    let l = c.lengths_of-lent.ensures in
    let a = c.args in record { outcome_after = rw (l.0, l.1, l.2) (ap (in_arrays a.z (device a.flash.now a.spare.now a.disk.now)) (rw (l.0, l.1, l.2) at make.ensures.outcome_after)); read_value = make.ensures.read_value }

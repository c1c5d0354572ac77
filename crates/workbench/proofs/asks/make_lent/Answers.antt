-- `workbench::asks::make_lent` meets its contract.
use native.Mathlib.Omega.{arith}
use lib.ListN.{take, length-take}
use Rattle.drive.proofs.Requests.{read_short}
use Rattle.calls.proofs.Asked.{two_small}
use Rattle.outcome.specs.Handed.{handed_back}
use Rattle.model.specs.Driving.{bytes_of, allowance, call_of}
use Rattle.geometry.specs.Geometry.{device}
use Rattle.workbench.proofs.Outcomes.{stores_few}
use Rattle.workbench.proofs.asks.make_lent.Goals as goal

pub slice_bounds-make-end-2 : goal.slice_bounds-make-end-2
slice_bounds-make-end-2 c = simp length-take (omega (arith, c.lent-lent.ensures.0, c.requires.arrays.0.flash_length))

pub slice_bounds-make-end-4 : goal.slice_bounds-make-end-4
slice_bounds-make-end-4 c = simp length-take (omega (arith, c.lent-lent.ensures.1, c.requires.arrays.0.spare_length))

pub slice_bounds-make-end-6 : goal.slice_bounds-make-end-6
slice_bounds-make-end-6 c = simp length-take (omega (arith, c.lent-lent.ensures.2, c.requires.arrays.0.disk_length))

pub returns : goal.returns
unfolding allowance
returns c = let start = c in
    let a = start.args in
    let make = c.make in
    let lent = c.lent-lent.result in
    let left = make.new in
    let f = bytes_of a.line.now in
    let digits = start.requires.framed.0.digits in
    let before = device (take lent.flash a.flash.now) (take lent.spare a.spare.now) (take lent.disk a.disk.now) in
    let after = handed_back (device left.flash left.spare left.disk) (take make.result.read left.buffer) make.result.outcome in (
      omega (arith, make.ensures.read_value, read_short a.z a.line.now digits),
      omega (arith, stores_few (allowance f) (call_of a.z f) a.b.recorder.state before after make.ensures.outcome_after, two_small a.line.now 1 digits),
    )

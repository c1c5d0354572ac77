-- `calls::read_call` meets its contract.
use lib.Seq.{take_at, length-take-le}
use lib.ListN.{length, take, drop, replicate, length-take, length-append, length-drop, length-replicate}
use native.Mathlib.Omega.{arith}
use mathlib.Core.Path.{◌≡◌, refl, sym, ap, ◌∙◌}
use Rattle.geometry.specs.Geometry.{device}
use Rattle.calls.specs.Arrays.{seen}
use Rattle.calls.proofs.Unseen.{unseen}
use Rattle.calls.proofs.read_call.Goals as goal

pub slice_bounds-part-end-2 : goal.slice_bounds-part-end-2
slice_bounds-part-end-2 c = simp length-take (omega (arith, c.requires.1))

pub returns : goal.returns
returns c = let a = c.args in
    let read = c.read-outcome in
    let back = read.new.buffer in
    let lent : length (take a.count a.buffer.now) ≡ a.count = length-take-le a.count a.buffer.now c.requires.1 in
    let whole : length back ≡ a.count = omega (arith, read.auto.buffer, length-append back (drop a.count a.buffer.now), length-drop a.count a.buffer.now, c.requires.1) in
    record { outcome_after = rw (take_at back (drop a.count a.buffer.now) a.count whole) (ap seen read.ensures ∙ unseen a.allowance a.bucket a.offset (take a.count a.buffer.now) (replicate a.count 0) (lent ∙ sym (length-replicate a.count 0)) a.s (device a.flash.now a.spare.now a.disk.now)); read_value = refl }

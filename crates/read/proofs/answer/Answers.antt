use mathlib.Core.Path.{refl}
use Rattle.model.specs.Steps.{nothing}
use Rattle.geometry.specs.Geometry.{device}
use Rattle.meter.specs.Run.{fresh, run_all}
use Rattle.state.specs.View.{places_of}
use Rattle.steps.specs.Turns.{after}
use Rattle.read.proofs.Plans.{handed-read}
use borrow.Author.Rules.{rules}
use Rattle.read.proofs.answer.Goals as goal

pub finish-requires : goal.finish-requires
finish-requires c = rw c.whole-whole.ensures (search rules)

pub returns : goal.returns
unfolding nothing after run_all
returns c = let a = c.args in
    let d = device a.flash.now a.spare.now a.disk.now in
    rw (c.finish.ensures, c.whole-whole.ensures)
    (handed-read a.allowance a.s d (λ t. nothing (places_of a.new)) {q = record { run = fresh d a.allowance; state = places_of a.new }} refl a.b a.offset a.buffer.now c.merged_range.ensures)

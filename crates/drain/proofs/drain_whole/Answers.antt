use borrow.Author.Rules.{rules}
use mathlib.Core.Path.{refl, sym}
use Rattle.state.specs.View.{places_of}
use Rattle.model.specs.Operations.{drain}
use Rattle.model.specs.Calls.{drain_call, sizes_of, done_answer, lent_buffer, read_buffer}
use Rattle.geometry.specs.Geometry.{device}
use Rattle.outcome.proofs.Ends.{step_left, step-handed}
use Rattle.drain.proofs.drain_whole.Goals as goal

pub finish-requires : goal.finish-requires
unfolding sizes_of
finish-requires c =
    let a = c.args in
    step_left a.allowance drain_call a.s (places_of a.s) (device a.flash.now a.spare.now a.disk.now) (drain a.s.sizes) (rw c.whole.ensures at c.drain_queues-state.ensures.after)

pub returns : goal.returns
unfolding sizes_of done_answer lent_buffer read_buffer
returns c =
    let a = c.args in
    let stays = c.drain_queues-state.ensures.stays in
    let flash = sym stays.flash in
    let spare = sym stays.spare in
    let disk = sym stays.disk in
    let ends = step-handed a.allowance drain_call a.s (places_of a.s) (device a.flash.now a.spare.now a.disk.now) (drain a.s.sizes) (rw c.whole.ensures at c.drain_queues-state.ensures.after) refl refl in
    search (rules, flash, spare, disk, ends, c.finish.ensures)

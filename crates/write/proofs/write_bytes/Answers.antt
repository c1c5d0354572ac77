use borrow.Author.Rules.{rules}
use mathlib.Core.Path.{refl, sym}
use Rattle.model.specs.Operations.{write}
use Rattle.model.specs.Calls.{write_call, sizes_of, lent_buffer, read_buffer, done_answer}
use Rattle.outcome.proofs.Ends.{step_left, step-handed}
use Rattle.geometry.specs.Geometry.{device}
use Rattle.state.specs.View.{places_of}
use Rattle.write.proofs.write_bytes.Goals as goal

pub finish-requires : goal.finish-requires
unfolding sizes_of
finish-requires c =
    let a = c.args in
    step_left a.allowance (write_call a.b a.offset a.bytes.now) a.s (places_of a.s) (device a.flash.now a.spare.now a.disk.now) (write a.s.sizes a.b a.offset a.bytes.now) (rw c.whole.ensures at c.write_log-state.ensures.after)

pub returns : goal.returns
unfolding sizes_of done_answer lent_buffer read_buffer
returns c =
    let a = c.args in
    let stays = c.write_log-state.ensures.stays in
    let flash = sym stays.flash in
    let spare = sym stays.spare in
    let disk = sym stays.disk in
    let ends = step-handed a.allowance (write_call a.b a.offset a.bytes.now) a.s (places_of a.s) (device a.flash.now a.spare.now a.disk.now) (write a.s.sizes a.b a.offset a.bytes.now) (rw c.whole.ensures at c.write_log-state.ensures.after) refl refl in
    search (rules, flash, spare, disk, ends, c.finish.ensures)

use borrow.Author.Rules.{rules}
use mathlib.Core.Path.{refl, sym}
use Rattle.state.specs.View.{places_of}
use Rattle.model.specs.Steps.{erase_step}
use Rattle.model.specs.Calls.{erase_call, sizes_of, lent_buffer, read_buffer}
use Rattle.geometry.specs.Geometry.{device}
use Rattle.outcome.proofs.Ends.{step_left, step-handed}
use Rattle.erasestep.proofs.erase_head.Goals as goal

pub finish-requires : goal.finish-requires
unfolding sizes_of
finish-requires c =
    let a = c.args in
    step_left a.allowance erase_call a.s (places_of a.s) (device a.flash.now a.spare.now a.disk.now) (erase_step a.s.sizes) (rw c.whole.ensures at c.erase_step-state.ensures.after)

pub returns : goal.returns
unfolding sizes_of lent_buffer read_buffer
returns c =
    let a = c.args in
    let stays = c.erase_step-state.ensures.stays in
    let flash = sym stays.flash in
    let spare = sym stays.spare in
    let disk = sym stays.disk in
    let ends = step-handed a.allowance erase_call a.s (places_of a.s) (device a.flash.now a.spare.now a.disk.now) (erase_step a.s.sizes) (rw c.whole.ensures at c.erase_step-state.ensures.after) refl refl in
    search (rules, flash, spare, disk, ends, c.finish.ensures, c.full_answer-full.ensures)

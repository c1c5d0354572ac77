use borrow.Author.Rules.{rules}
use mathlib.Core.Path.{refl, sym}
use Rattle.geometry.specs.Geometry.{device}
use Rattle.model.specs.Calls.{format_call, sizes_of, done_answer, lent_buffer, read_buffer}
use Rattle.model.specs.Operations.{format}
use Rattle.outcome.proofs.Ends.{left_within, handed_quiet}
use Rattle.state.specs.View.{view_of}
use Rattle.format.proofs.format_chip.Goals as goal

pub finish-requires : goal.finish-requires
unfolding sizes_of format
finish-requires c =
    let a = c.args in
    let d = device a.flash.now a.spare.now a.disk.now in
    left_within a.allowance (format_call a.z) a.s (view_of a.s) d (format a.z) (rw c.whole.ensures at c.erase_all.ensures.after)

pub returns : goal.returns
unfolding sizes_of format done_answer lent_buffer read_buffer
returns c =
    let a = c.args in
    let d = device a.flash.now a.spare.now a.disk.now in
    let stays = c.erase_all.ensures.stays in
    let flash = sym stays.flash in
    let spare = sym stays.spare in
    let disk = sym stays.disk in
    let ends = handed_quiet a.allowance (format_call a.z) a.s (view_of a.s) d (format a.z) refl refl (rw c.whole.ensures at c.erase_all.ensures.after) in
    search (rules, flash, spare, disk, ends, c.finish.ensures, c.formatted-new.ensures)

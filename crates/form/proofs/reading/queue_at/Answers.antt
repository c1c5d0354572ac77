-- `reading::queue_at` meets its contract.
use Prim.Native.Nat.{◌+◌, ◌*◌, ◌≤◌}
use mathlib.Core.Path.{◌≡◌, ◌∙◌}
use mathlib.Core.List.{[], ◌∷◌, ◌++◌}
use native.Mathlib.Omega.{arith}
use lib.ListN.{length}
use Rattle.queue.specs.View.{entries_of}
use Rattle.form.specs.Rows.{width}
use Rattle.form.specs.Form.{entry_widths, entry_from, entries_in}
use Rattle.form.proofs.Found.{none_made, row_made, all_made, row_there, table_at, table_room, joined_more}
use Rattle.form.proofs.reading.queue_at.Goals.{In-loop-i}
use Rattle.form.proofs.reading.queue_at.Goals as goal

-- the next row is there
here : (c : In-loop-i) → c.args.at + 1 + c.loop-i.i * width (entry_widths c.args.write) + width (entry_widths c.args.write) ≤ length c.args.bytes.now
here c = let a = c.args in
    let wide = width (entry_widths a.write) in
    let n = c.number_at-n.result in
    let room = table_room 1 (entry_widths a.write) a.bytes.now a.at n c.number_at-n.ensures.0 64 c.requires.0 c.requires.1 in
    omega (arith, row_there (a.at + 1) wide n c.loop-i.i c.loop-i-test.true, room.1)

pub loop-i-init : goal.loop-i-init
loop-i-init c = let a = c.args in
    rw c.empty-queue.ensures (none_made (entry_widths a.write) entry_from a.bytes.now (a.at + 1) c.number_at-n.result)

pub overflow_mul-i : goal.overflow_mul-i
overflow_mul-i c = rw c.entry_size-size.ensures (omega (arith, here c))

pub overflow_add-at-in-loop-i : goal.overflow_add-at-in-loop-i
overflow_add-at-in-loop-i c = rw c.entry_size-size.ensures (omega (arith, here c))

pub entry_at-requires : goal.entry_at-requires
entry_at-requires c = rw c.entry_size-size.ensures (here c)

pub loop-i-preserved : goal.loop-i-preserved
loop-i-preserved c = let a = c.args in
    let l = c.loop-i in
    let room = table_room 1 (entry_widths a.write) a.bytes.now a.at c.number_at-n.result c.number_at-n.ensures.0 64 c.requires.0 c.requires.1 in
    let next = row_made (entry_widths a.write) entry_from c.loop-i-test.true l.invariant in
    let pushed : entries_of c.push-queue.result ≡ entries_of l.queue ++ (c.entry_at.result ∷ []) = c.push-queue.ensures ∙ joined_more 64 (entries_of l.queue) c.entry_at.result (omega (arith, l.invariant.counted, room.0)) in
    rw (pushed, c.entry_at.ensures, c.entry_size-size.ensures) next

pub returns : goal.returns
unfolding entries_in
returns c = let a = c.args in
    let count = c.number_at-n in
    let entries = all_made (entry_widths a.write) entry_from c.loop-i-test.false c.loop-i.invariant in
    c.cleared.ensures ∙ rw (entries, table_at 1 (entry_widths a.write) a.bytes.now a.at count.result count.ensures.0)

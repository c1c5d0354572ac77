-- `writing::put_queue` meets its contract.
use mathlib.Core.Path.{◌≡◌}
use native.Mathlib.Omega.{arith}
use lib.ListN.{take}
use Rattle.lists.proofs.Arrays.{take-used}
use Rattle.queue.specs.View.{entries_of}
use Rattle.form.specs.Form.{entry_widths, entry_numbers, entries_form}
use Rattle.form.proofs.Written.{table_long, table_put}
use Rattle.form.proofs.writing.put_queue.Goals as goal

pub put_number-requires : goal.put_number-requires
unfolding entries_form
put_number-requires c = let a = c.args in
    omega (arith, table_long 1 (entry_widths a.write) (entry_numbers a.write) (entries_of a.queue), c.requires)

pub put_entries-requires : goal.put_entries-requires
unfolding entries_form
put_entries-requires c = let a = c.args in
    let used = c.used-n in
    let same : take used.result a.queue.items ≡ entries_of a.queue = take-used used.result a.queue.len a.queue.items used.ensures.0 in
    rw same (omega (arith, table_long 1 (entry_widths a.write) (entry_numbers a.write) (entries_of a.queue), c.requires))

pub returns : goal.returns
unfolding entries_form
returns c = let a = c.args in
    let used = c.used-n in
    let put = c.put_entries.ensures in
    let same : take used.result a.queue.items ≡ entries_of a.queue = take-used used.result a.queue.len a.queue.items used.ensures.0 in
    let long = table_long 1 (entry_widths a.write) (entry_numbers a.write) (entries_of a.queue) in
    (omega (arith, long, rw same at put.end), rw (put.written, same, c.put_number.ensures) (table_put 1 (entry_widths a.write) (entry_numbers a.write) (entries_of a.queue) used.result used.ensures.0 a.out.now a.at (omega (arith, long, c.requires))))

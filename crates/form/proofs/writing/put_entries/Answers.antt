-- `writing::put_entries` meets its contract.
use mathlib.Core.Path.{refl}
use native.Mathlib.Omega.{arith}
use Rattle.queue.specs.View.{no_entry}
use Rattle.form.specs.Form.{entry_widths, entry_numbers}
use Rattle.form.proofs.Written.{entry_shaped, rows_left, row_put, all_put}
use Rattle.form.proofs.writing.put_entries.Goals as goal

pub loop-e-init : goal.loop-e-init
loop-e-init c = record { whole = refl; ends = refl }

pub put_entry-requires : goal.put_entry-requires
put_entry-requires c = let a = c.args in
    let long = rows_left (entry_widths a.write) (entry_numbers a.write) (entry_shaped a.write) no_entry a.entries.now c.loop-e.e-index (omega arith) in
    omega (arith, long, c.loop-e.invariant.ends, c.requires)

pub overflow_add-end : goal.overflow_add-end
overflow_add-end c = let a = c.args in
    let long = rows_left (entry_widths a.write) (entry_numbers a.write) (entry_shaped a.write) no_entry a.entries.now c.loop-e.e-index (omega arith) in
    omega (arith, long, c.loop-e.invariant.ends, c.requires, c.entry_size-size.ensures)

pub loop-e-preserved : goal.loop-e-preserved
loop-e-preserved c = let a = c.args in
    let l = c.loop-e in
    let left = row_put (entry_widths a.write) (entry_numbers a.write) (entry_shaped a.write) no_entry a.entries.now l.e-index (omega arith) l.invariant (omega (arith, c.requires)) in
    rw (c.entry_size-size.ensures, c.put_entry.ensures) left

pub returns : goal.returns
returns c = let a = c.args in
    let put = all_put (entry_widths a.write) (entry_numbers a.write) a.entries.now c.loop-e.e-index (omega arith) c.loop-e.invariant in
    record { end = put.0; written = put.1 }

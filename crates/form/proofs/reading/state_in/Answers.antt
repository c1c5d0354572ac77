-- `reading::state_in` meets its contract.
use mathlib.Core.Bool.{true, false}
use native.Mathlib.Omega.{arith}
use Rattle.state.specs.View.{state_of}
use Rattle.form.specs.Form.{entry_widths, bucket_widths, state_in}
use Rattle.form.specs.Rows.{width}
use Rattle.form.proofs.Places.{read_wide, write_wide, bucket_wide, from_reads_lem, from_writes_lem, from_gc_lem, from_free_lem, placed}
use Rattle.form.proofs.Found.{head_at, byte_number}
use Rattle.form.proofs.reading.state_in.Goals as goal

pub table_end-writes_at-requires : goal.table_end-writes_at-requires
table_end-writes_at-requires c = ((placed c.args.bytes.now c.requires).long, omega arith, omega arith)

pub table_end-gc_at-requires : goal.table_end-gc_at-requires
table_end-gc_at-requires c = (rw (c.table_end-writes_at.ensures (entry_widths false) read_wide) (placed c.args.bytes.now c.requires).writes_in, omega arith, omega arith)

pub table_end-free_at-requires : goal.table_end-free_at-requires
table_end-free_at-requires c = let writes = c.table_end-writes_at.ensures (entry_widths false) read_wide in
    let gc = rw writes at (c.table_end-gc_at.ensures (entry_widths true) write_wide) in
    (rw gc (placed c.args.bytes.now c.requires).gc_in, omega arith, omega arith)

pub sizes_in-sizes-requires : goal.sizes_in-sizes-requires
unfolding width
sizes_in-sizes-requires c = (placed c.args.bytes.now c.requires).long

pub queue_at-reads-requires : goal.queue_at-reads-requires
queue_at-reads-requires c = let p = placed c.args.bytes.now c.requires in
    (p.long, p.reads_fit)

pub queue_at-writes-requires : goal.queue_at-writes-requires
queue_at-writes-requires c = let p = placed c.args.bytes.now c.requires in
    rw (c.table_end-writes_at.ensures (entry_widths false) read_wide) (p.writes_in, p.writes_fit)

pub fifo_at-gc-requires : goal.fifo_at-gc-requires
fifo_at-gc-requires c = let p = placed c.args.bytes.now c.requires in
    let writes = c.table_end-writes_at.ensures (entry_widths false) read_wide in
    let gc = rw writes at (c.table_end-gc_at.ensures (entry_widths true) write_wide) in
    rw gc (p.gc_in, p.gc_fit)

pub fifo_at-free-requires : goal.fifo_at-free-requires
fifo_at-free-requires c = let p = placed c.args.bytes.now c.requires in
    let writes = c.table_end-writes_at.ensures (entry_widths false) read_wide in
    let gc = rw writes at (c.table_end-gc_at.ensures (entry_widths true) write_wide) in
    let free = rw gc at (c.table_end-free_at.ensures bucket_widths bucket_wide) in
    rw free (p.free_in, p.free_fit)

pub number_at-requires : goal.number_at-requires
number_at-requires c = (omega (arith, (placed c.args.bytes.now c.requires).long), omega arith)

pub bounds-bytes-10 : goal.bounds-bytes-10
bounds-bytes-10 c = omega (arith, (placed c.args.bytes.now c.requires).long)

pub bounds-bytes-9 : goal.bounds-bytes-9
bounds-bytes-9 c = omega (arith, (placed c.args.bytes.now c.requires).long)

pub returns : goal.returns
unfolding state_of state_in
returns c = let l = c.args.bytes.now in
    let writes = c.table_end-writes_at.ensures (entry_widths false) read_wide in
    let gc = rw writes at (c.table_end-gc_at.ensures (entry_widths true) write_wide) in
    let free = rw gc at (c.table_end-free_at.ensures bucket_widths bucket_wide) in
    rw (
      c.sizes_in-sizes.ensures,
      c.queue_at-reads.ensures,
      c.queue_at-writes.ensures,
      c.fifo_at-gc.ensures,
      c.fifo_at-free.ensures,
      c.number_at.ensures.0,
      writes,
      gc,
      free,
      from_reads_lem l,
      from_writes_lem l,
      from_gc_lem l,
      from_free_lem l,
      head_at l,
      ← byte_number l 9,
      ← byte_number l 10,
    )

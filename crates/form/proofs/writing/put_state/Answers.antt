-- `writing::put_state` meets its contract.
use mathlib.Core.List.{◌++◌}
use mathlib.Core.Bool.{true, false}
use mathlib.Core.Path.{◌∙◌}
use native.Mathlib.Omega.{arith}
use Rattle.state.specs.View.{places_of}
use Rattle.form.specs.Form.{head_widths, head_numbers, entries_form, buckets_form, form_of}
use Rattle.form.specs.Rows.{width, row_bytes}
use Rattle.form.proofs.Written.{form_long, head_wide, goes_on_lem}
use Rattle.form.proofs.writing.put_state.Goals as goal

pub put_head-requires : goal.put_head-requires
unfolding width
put_head-requires c = omega (arith, form_long (places_of c.args.s), c.requires)

pub put_queue-writes-requires : goal.put_queue-writes-requires
put_queue-writes-requires c = omega (arith, form_long (places_of c.args.s), c.requires)

pub put_queue-gc-requires : goal.put_queue-gc-requires
put_queue-gc-requires c = omega (arith, form_long (places_of c.args.s), c.requires, c.put_queue-writes.ensures.0)

pub put_fifo-free-requires : goal.put_fifo-free-requires
put_fifo-free-requires c = omega (arith, form_long (places_of c.args.s), c.requires, c.put_queue-writes.ensures.0, c.put_queue-gc.ensures.0)

pub put_fifo-requires : goal.put_fifo-requires
put_fifo-requires c = omega (arith, form_long (places_of c.args.s), c.requires, c.put_queue-writes.ensures.0, c.put_queue-gc.ensures.0, c.put_fifo-free.ensures.0)

pub returns : goal.returns
unfolding form_of
returns c = let a = c.args in
    let s = places_of a.s in
    let head = row_bytes head_widths (head_numbers s) in
    let reads = entries_form false s.reads in
    let writes = entries_form true s.writes in
    let gc = buckets_form s.gc in
    let free = buckets_form s.free in
    let put-head = c.put_head in
    let put_reads = c.put_queue-writes in
    let put-writes = c.put_queue-gc in
    let put-gc = c.put_fifo-free in
    let wide = head_wide s in
    let long = form_long s in
    let room = c.requires in
    c.put_fifo.ensures.1
    ∙ goes_on_lem put-writes.new.out put-writes.result gc free put-gc.ensures.1 put-gc.ensures.0 (omega (arith, wide, long, room, put_reads.ensures.0, put-writes.ensures.0))
    ∙ goes_on_lem put_reads.new.out put_reads.result writes (gc ++ free) put-writes.ensures.1 put-writes.ensures.0 (omega (arith, wide, long, room, put_reads.ensures.0, put-writes.ensures.0))
    ∙ goes_on_lem put-head.new.out 19 reads (writes ++ (gc ++ free)) put_reads.ensures.1 put_reads.ensures.0 (omega (arith, wide, long, room, put_reads.ensures.0, put-writes.ensures.0))
    ∙ goes_on_lem a.out.now 0 head (reads ++ (writes ++ (gc ++ free))) put-head.ensures (omega (arith, wide)) (omega (arith, wide, long, room, put_reads.ensures.0, put-writes.ensures.0))

use mathlib.Core.Path.{sym}
use Rattle.image.specs.Chip.{spare_only}
use Rattle.recover.proofs.Queues.{room-fits, room-length}
use Rattle.recover.proofs.rebuild_writes.Goals as goal

pub slice_bounds-writes-end : goal.slice_bounds-writes-end
slice_bounds-writes-end c = room-fits c.args.z (spare_only c.args.run.now.spare.now) c.requires.recoverable.limits c.requires.order_value _ c.blank_column-writes.ensures

pub slice_bounds-write_columns-end : goal.slice_bounds-write_columns-end
slice_bounds-write_columns-end c = sym (room-length c.args.z (spare_only c.args.run.now.spare.now) c.requires.recoverable.limits c.requires.order_value _ c.blank_column-writes.ensures)

pub slice_bounds-dropped-end : goal.slice_bounds-dropped-end
slice_bounds-dropped-end c = room-fits c.args.z (spare_only c.args.run.now.spare.now) c.requires.recoverable.limits c.requires.order_value _ c.blank_column-dropped.ensures

pub slice_bounds-write_columns-end-2 : goal.slice_bounds-write_columns-end-2
slice_bounds-write_columns-end-2 c = sym (room-length c.args.z (spare_only c.args.run.now.spare.now) c.requires.recoverable.limits c.requires.order_value _ c.blank_column-dropped.ensures)

pub write_columns-requires-clause-writes_len : goal.write_columns-requires-clause-writes_len
write_columns-requires-clause-writes_len c =
    let room = room-length c.args.z (spare_only c.args.run.now.spare.now) c.requires.recoverable.limits c.requires.order_value in
    (room _ c.blank_column-writes.ensures, room _ c.blank_column-dropped.ensures)

use mathlib.Core.Path.{sym}
use Rattle.image.specs.Chip.{spare_only}
use Rattle.recover.proofs.Queues.{room-fits, room-length}
use Rattle.recover.proofs.rebuild_copies.Goals as goal

pub slice_bounds-copies-end : goal.slice_bounds-copies-end
slice_bounds-copies-end c = room-fits c.args.z (spare_only c.args.run.now.spare.now) c.requires.recoverable.limits c.requires.order_value _ c.blank_column-copies.ensures

pub slice_bounds-copy_columns-end : goal.slice_bounds-copy_columns-end
slice_bounds-copy_columns-end c = sym (room-length c.args.z (spare_only c.args.run.now.spare.now) c.requires.recoverable.limits c.requires.order_value _ c.blank_column-copies.ensures)

pub slice_bounds-dropped-end : goal.slice_bounds-dropped-end
slice_bounds-dropped-end c = room-fits c.args.z (spare_only c.args.run.now.spare.now) c.requires.recoverable.limits c.requires.order_value _ c.blank_column-dropped.ensures

pub slice_bounds-copy_columns-end-2 : goal.slice_bounds-copy_columns-end-2
slice_bounds-copy_columns-end-2 c = sym (room-length c.args.z (spare_only c.args.run.now.spare.now) c.requires.recoverable.limits c.requires.order_value _ c.blank_column-dropped.ensures)

pub copy_columns-requires-clause-copies_len : goal.copy_columns-requires-clause-copies_len
copy_columns-requires-clause-copies_len c =
    let room = room-length c.args.z (spare_only c.args.run.now.spare.now) c.requires.recoverable.limits c.requires.order_value in
    (room _ c.blank_column-copies.ensures, room _ c.blank_column-dropped.ensures)

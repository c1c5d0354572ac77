use Rattle.rescue.proofs.Bytes.{base_stands, rescued_laid}
use Rattle.rescue.proofs.Standing.{order_within, order_length, column-length}
use Rattle.rescue.proofs.Places.{logs_below}
use Rattle.image.specs.Chip.{spare_only}
use Rattle.geometry.proofs.Passed.{lengths_of}
use Rattle.geometry.specs.Geometry.{device, Lent}
use Rattle.model.proofs.Frames.{length_disk}
use Rattle.model.specs.Recover.{is_chosen}
use Rattle.model.specs.Stores.{disk_bytes}
use Rattle.model.specs.Sizes.{body}
use Rattle.lists.specs.Lists.{member}
use Rattle.rescue.proofs.lay_rescued.Goals as goal

pub list_logs-count-requires-clause-order_in_bounds : goal.list_logs-count-requires-clause-order_in_bounds
list_logs-count-requires-clause-order_in_bounds c = order_length c.args.z (spare_only c.args.spare.now) c.requires.readable.limits c.requires.listed.order_is

pub lay_logs-requires-clause-copies_len : goal.lay_logs-requires-clause-copies_len
lay_logs-requires-clause-copies_len c =
    let a = c.args in
    let k = a.columns in
    let o = spare_only a.spare.now in
    let listed = c.requires.listed in
    let within = order_within a.z o listed.order_is in (
      column-length a.z o (is_chosen a.z o) listed.order_is listed.copies_are,
      within,
      rw c.list_logs-count.ensures.1 (logs_below a.b (body a.z) k.writes.now k.order.now (member a.b k.dropped_writes.now) within),
    )

pub returns : goal.returns
returns c =
    let a = c.args in
    let readable = c.requires.readable in
    let listed = c.requires.listed in
    let b = c.requires.b_lt_b in
    λ disk len shows.
    let d = device a.flash.now a.spare.now disk in
    let lent : Lent a.z a.flash.now a.spare.now disk = record { flash_length = readable.flash_length; spare_length = readable.spare_length; disk_length = len } in
    rw (
      ← rescued_laid readable disk len a.b b.0 listed.order_is listed.writes_are listed.dropped_writes_are b.1,
      ← base_stands readable disk len a.b b.0 listed.order_is listed.copies_are,
      ← c.list_logs-count.ensures.1,
    )
    (c.lay_logs.ensures (disk_bytes a.z d a.b) (length_disk a.z d (lengths_of lent) a.b b.0) shows)

use Prim.Native.Nat.{◌<◌}
use native.Mathlib.Omega.{arith}
use lib.ListN.{length, length-set}
use Rattle.lists.proofs.Arrays.{mapped_more}
use Rattle.model.specs.Sizes.{body}
use Rattle.model.proofs.Limits.{on_chip}
use Rattle.image.specs.Chip.{spare_only}
use Rattle.classes.specs.Columns.{named}
use Rattle.rescue.specs.Beside.{is_unwritten}
use Rattle.overlay.proofs.Found.{listed}
use Rattle.rescue.proofs.Standing.{order_within, order_length, unwritten_at}
use Rattle.rescue.proofs.unwritten_backs.Goals as goal

pub unwritten_back-requires-clause-c_lt_c : goal.unwritten_back-requires-clause-c_lt_c
unwritten_back-requires-clause-c_lt_c c =
    let a = c.args in
    on_chip a.z _ (listed (body a.z) a.columns.order.now (order_within a.z (spare_only a.spare.now) c.requires.listed.order_is) c.loop-i.i (omega arith))

pub bounds-unwritten-i : goal.bounds-unwritten-i
bounds-unwritten-i c = omega (arith, order_length c.args.z _ c.requires.chip.limits c.requires.listed.order_is)

pub loop-i-preserved : goal.loop-i-preserved
loop-i-preserved c =
    let a = c.args in
    let l = c.loop-i in
    let o = spare_only a.spare.now in
    let k = c.requires.listed in
    let here : l.i < length a.columns.order.now = omega arith in (
      rw (c.unwritten_back.ensures, unwritten_at a.z o k.order_is k.dropped_writes_are k.dropped_copies_are l.i here)
          (mapped_more (named a.z o (is_unwritten a.z o)) l.i a.columns.order.now l.unwritten 0 here (omega (arith, order_length a.z o c.requires.chip.limits k.order_is)) l.invariant.0),
      rw length-set l.invariant.1,
    )

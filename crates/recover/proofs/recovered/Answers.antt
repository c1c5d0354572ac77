use mathlib.Core.Path.{◌≡◌}
use mathlib.Core.List.{List}
use Prim.Native.Nat.{ℕ}
use Rattle.model.proofs.Formed.{Formed, formed_of}
use Rattle.model.proofs.Limits.{Limits}
use Rattle.model.specs.declared.Sizes.{Sizes}
use Rattle.model.specs.Sizes.{Device}
use Rattle.classes.specs.Columns.{Columns}
use Rattle.model.specs.Recover.{by_epoch, kept_copies, kept_writes, rebuilt}
use Rattle.image.specs.Chip.{spare_only}
use Rattle.recover.specs.Kept.{differing, retired}
use Rattle.rescue.proofs.Standing.{order_within}
use Rattle.recover.proofs.Queues.{kept_copies_lem, kept_writes_lem, few_copies, few_writes}
use Rattle.recover.proofs.recovered.Goals as goal

module _ (z : Sizes) (d : Device) (limits : Limits z) (formed : Formed z d) {order writes dropped_writes copies dropped_copies : List ℕ} (k : Columns z d order writes dropped_writes copies dropped_copies) where
  copies_kept : differing copies dropped_copies order ≡ by_epoch z d (kept_copies z d)
  copies_kept = rw (k.copies_are, k.dropped_copies_are, k.order_is) (kept_copies_lem z d limits formed)

  writes_kept : differing writes dropped_writes order ≡ by_epoch z d (kept_writes z d)
  writes_kept = rw (k.writes_are, k.dropped_writes_are, k.order_is) (kept_writes_lem z d limits formed)

pub kept_queue-reads-requires-clause-order_value : goal.kept_queue-reads-requires-clause-order_value
kept_queue-reads-requires-clause-order_value c = order_within c.args.z (spare_only c.args.spare.now) c.requires.listed.order_is

pub kept_queue-reads-requires-clause-order_len_bound : goal.kept_queue-reads-requires-clause-order_len_bound
kept_queue-reads-requires-clause-order_len_bound c =
    let q = c.requires in
    let z = c.args.z in
    let d = spare_only c.args.spare.now in
    let formed = formed_of z d q.spare_value in
    rw (copies_kept z d q.chip.limits formed q.listed) (few_copies z d q.chip.limits formed)

pub kept_queue-writes-requires-clause-order_value : goal.kept_queue-writes-requires-clause-order_value
kept_queue-writes-requires-clause-order_value c = order_within c.args.z (spare_only c.args.spare.now) c.requires.listed.order_is

pub kept_queue-writes-requires-clause-order_len_bound : goal.kept_queue-writes-requires-clause-order_len_bound
kept_queue-writes-requires-clause-order_len_bound c =
    let q = c.requires in
    let z = c.args.z in
    let d = spare_only c.args.spare.now in
    let formed = formed_of z d q.spare_value in
    rw (writes_kept z d q.chip.limits formed q.listed) (few_writes z d q.chip.limits formed)

pub returns : goal.returns
unfolding rebuilt retired
returns c =
    let q = c.requires in
    let z = c.args.z in
    let d = spare_only c.args.spare.now in
    let formed = formed_of z d q.spare_value in
    rw (
      c.kept_queue-reads.ensures,
      copies_kept z d q.chip.limits formed q.listed,
      c.kept_queue-writes.ensures,
      writes_kept z d q.chip.limits formed q.listed,
      c.retired-gc.ensures,
      c.buckets-free.ensures,
    )

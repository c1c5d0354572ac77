use mathlib.Core.List.{List, ◌++◌, append_assoc}
use Rattle.recover.proofs.Queues.{column_again, room-fits, room-length, spent, old_copies, dropped_copies, dropped_writes, gc_fits, gc_is, picked_old, picked_copies, picked_writes}
use Rattle.recover.specs.Kept.{picked}
use Rattle.classes.specs.Columns.{in_order, column}
use Rattle.fifo.specs.View.{list_of}
use Rattle.image.specs.Chip.{spare_only}
use Rattle.model.proofs.Formed.{Formed, formed_of}
use Rattle.model.proofs.Limits.{Limits}
use Rattle.model.specs.declared.Sizes.{Sizes}
use Rattle.model.specs.Sizes.{Device}
use Rattle.model.specs.Recover.{is_dropped_write, is_dropped_copy, is_old_copy}
use mathlib.Core.Bool.{Bool}
use mathlib.Core.Path.{◌≡◌, sym, ap, ◌∙◌}
use Prim.Native.Nat.{ℕ}
use native.Mathlib.Omega.{arith}
use lib.ListN.{length, take, drop, length-append}
use Rattle.recover.proofs.retired.Goals as goal

module _ (z : Sizes) (d : Device) {order : List ℕ} (order_is : order ≡ in_order z d) where
  -- what a column picks of the order
  listed : (t : ℕ → Bool) → picked (column z d t) order ≡ picked (column z d t) (in_order z d)
  listed t = ap (picked (column z d t)) order_is

  module _ (limits : Limits z) (formed : Formed z d) where
    -- the spent buckets, and behind them the old copies
    first_is : {last list : List ℕ} → last ≡ column z d (is_old_copy z d) → (room : List ℕ) {front : List ℕ} → front ≡ spent z d
        → list ≡ front ++ picked (take (length order) (last ++ drop (length order) room)) order
        → list ≡ spent z d ++ old_copies z d
    first_is e room n g =
        g ∙ rw (n, column_again z d (is_old_copy z d) order_is room e) (ap (λ (l : List ℕ). spent z d ++ l) (listed (is_old_copy z d) ∙ picked_old z d limits formed))

    copies-listed : {dropped : List ℕ} → dropped ≡ column z d (is_dropped_copy z d) → picked dropped order ≡ dropped_copies z d
    copies-listed e = ap (λ (l : List ℕ). picked l order) e ∙ listed (is_dropped_copy z d) ∙ picked_copies z d limits formed

    writes-listed : {dropped : List ℕ} → dropped ≡ column z d (is_dropped_write z d) → picked dropped order ≡ dropped_writes z d
    writes-listed e = ap (λ (l : List ℕ). picked l order) e ∙ listed (is_dropped_write z d) ∙ picked_writes z d limits formed

pub slice_bounds-old-end : goal.slice_bounds-old-end
slice_bounds-old-end c =
    room-fits c.args.z (spare_only c.args.spare.now) c.requires.chip.limits c.requires.listed.order_is _ c.blank_column-old.ensures

pub slice_bounds-old_column-end : goal.slice_bounds-old_column-end
slice_bounds-old_column-end c =
    sym (room-length c.args.z (spare_only c.args.spare.now) c.requires.chip.limits c.requires.listed.order_is _ c.blank_column-old.ensures)

pub old_column-requires-clause-out_len : goal.old_column-requires-clause-out_len
old_column-requires-clause-out_len c =
    let q = c.requires in
    room-length c.args.z (spare_only c.args.spare.now) q.chip.limits q.listed.order_is _ c.blank_column-old.ensures

pub gather-first-requires-clause-order_len_bound : goal.gather-first-requires-clause-order_len_bound
gather-first-requires-clause-order_len_bound c =
    let q = c.requires in
    let z = c.args.z in
    let d = spare_only c.args.spare.now in
    let o = q.listed.order_is in
    let old = column_again z d (is_old_copy z d) o c.blank_column-old.result c.old_column.ensures in
    let first = ap (λ (l : List ℕ). length (picked l c.args.columns.order.now)) old ∙ ap length (listed z d o (is_old_copy z d)) ∙ ap length (picked_old z d q.chip.limits (formed_of z d q.spare_value)) in
    omega (arith, ap length c.buckets-spent.ensures, first, gc_fits z d, q.chip.limits.ledger_in, q.chip.limits.c_high)

pub gather-second-requires-clause-order_len_bound : goal.gather-second-requires-clause-order_len_bound
gather-second-requires-clause-order_len_bound c =
    let q = c.requires in
    let z = c.args.z in
    let d = spare_only c.args.spare.now in
    let o = q.listed.order_is in
    let formed = formed_of z d q.spare_value in
    let first = first_is z d o q.chip.limits formed c.old_column.ensures c.blank_column-old.result c.buckets-spent.ensures c.gather-first.ensures in
    omega (arith, ap length first, length-append (spent z d) (old_copies z d), ap length (copies-listed z d o q.chip.limits formed q.listed.dropped_copies_are), gc_fits z d, q.chip.limits.ledger_in, q.chip.limits.c_high)

pub gather-requires-clause-order_len_bound : goal.gather-requires-clause-order_len_bound
gather-requires-clause-order_len_bound c =
    let q = c.requires in
    let z = c.args.z in
    let d = spare_only c.args.spare.now in
    let o = q.listed.order_is in
    let formed = formed_of z d q.spare_value in
    let first = first_is z d o q.chip.limits formed c.old_column.ensures c.blank_column-old.result c.buckets-spent.ensures c.gather-first.ensures in
    omega (
      arith,
      ap length c.gather-second.ensures,
      length-append (list_of c.gather-first.result) (picked c.args.columns.dropped_copies.now c.args.columns.order.now),
      ap length first,
      length-append (spent z d) (old_copies z d),
      ap length (copies-listed z d o q.chip.limits formed q.listed.dropped_copies_are),
      ap length (writes-listed z d o q.chip.limits formed q.listed.dropped_writes_are),
      gc_fits z d,
      q.chip.limits.ledger_in,
      q.chip.limits.c_high,
    )

pub returns : goal.returns
returns c =
    let q = c.requires in
    let z = c.args.z in
    let d = spare_only c.args.spare.now in
    let o = q.listed.order_is in
    let formed = formed_of z d q.spare_value in
    let first = first_is z d o q.chip.limits formed c.old_column.ensures c.blank_column-old.result c.buckets-spent.ensures c.gather-first.ensures in
    c.gather.ensures
    ∙ rw (c.gather-second.ensures, first, copies-listed z d o q.chip.limits formed q.listed.dropped_copies_are, writes-listed z d o q.chip.limits formed q.listed.dropped_writes_are) (append_assoc (spent z d ++ old_copies z d) (dropped_copies z d) (dropped_writes z d))
    ∙ append_assoc (spent z d) (old_copies z d) (dropped_copies z d ++ dropped_writes z d) ∙ gc_is z d

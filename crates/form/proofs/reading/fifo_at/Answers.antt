-- `reading::fifo_at` meets its contract.
use Prim.Native.Nat.{ℕ, ◌+◌, ◌≤◌}
use mathlib.Core.Bool.{true}
use mathlib.Core.List.{List}
use mathlib.Core.Path.{◌≡◌, ◌∙◌}
use native.Mathlib.Nat.{add-sub_cancel_left}
use native.Mathlib.Omega.{arith}
use borrow.Author.Rules.{rules}
use lib.ListN.{length, drop, length-drop}
use lib.Seq.{length-take-le}
use Rattle.form.specs.Numbers.{number_in}
use Rattle.form.specs.Rows.{width, table_fits}
use Rattle.form.specs.Form.{bucket_widths, buckets_in}
use Rattle.form.proofs.Found.{buckets_are, table_at, table_room}
use Rattle.form.proofs.reading.fifo_at.Goals as goal

-- the buckets are there, and no more than a queue has places for
there : (bytes : List ℕ) (at n : ℕ) → n ≡ number_in 2 (drop at bytes) → at ≤ length bytes → table_fits 2 bucket_widths 256 (drop at bytes) ≡ true → (n ≤ 256) × (at + 2 + n ≤ length bytes)
unfolding width
there bytes at n count inside fits =
    let room = table_room 2 bucket_widths bytes at n count 256 inside fits in
    (room.0, omega (arith, room.1))

pub overflow_add-from : goal.overflow_add-from
overflow_add-from c =
    let room = there c.args.bytes.now c.args.at c.number_at-n.result c.number_at-n.ensures.0 c.requires.0 c.requires.1 in
    omega (arith, room.1)

pub slice_bounds-fifo_of-end : goal.slice_bounds-fifo_of-end
slice_bounds-fifo_of-end c =
    let room = there c.args.bytes.now c.args.at c.number_at-n.result c.number_at-n.ensures.0 c.requires.0 c.requires.1 in
    search rules

pub fifo_of-requires : goal.fifo_of-requires
fifo_of-requires c = let n = c.number_at-n.result in let from = c.args.at + 2 in
    let room = there c.args.bytes.now c.args.at n c.number_at-n.ensures.0 c.requires.0 c.requires.1 in
    let long : n ≤ length (drop from c.args.bytes.now) = omega (arith, length-drop from c.args.bytes.now, room.1) in
    rw (add-sub_cancel_left from n, length-take-le n (drop from c.args.bytes.now) long) room.0

pub returns : goal.returns
unfolding buckets_in
returns c = let a = c.args in let n = c.number_at-n.result in let from = a.at + 2 in
    let room = there a.bytes.now a.at n c.number_at-n.ensures.0 c.requires.0 c.requires.1 in
    let long : n ≤ length (drop from a.bytes.now) = omega (arith, length-drop from a.bytes.now, room.1) in
    c.fifo_of.ensures ∙ rw (add-sub_cancel_left from n, table_at 2 bucket_widths a.bytes.now a.at n c.number_at-n.ensures.0, buckets_are n (drop from a.bytes.now) long)

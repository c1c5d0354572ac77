use Rattle.rescue.proofs.Places.{found-member, found_first, found_none}
use Rattle.overlay.proofs.Found.{listed}
use Rattle.geometry.proofs.Places.{bucket_data}
use Rattle.model.proofs.Limits.{on_chip}
use Rattle.model.specs.Sizes.{bucket_size, body}
use Rattle.model.specs.declared.Sizes.{Sizes}
use Rattle.model.specs.State.{is_below}
use Rattle.overlay.specs.Window.{Readable}
use Rattle.lists.specs.Lists.{all}
use mathlib.Core.Bool.{true}
use mathlib.Core.List.{List}
use mathlib.Core.Path.{◌≡◌}
use Rattle.lists.proofs.Lent.{lent_part, lent_length}
use lib.ListN.{length, get_or}
use native.Mathlib.Omega.{arith}
use Prim.Native.Nat.{ℕ, ◌+◌, ◌*◌, ◌≤◌, ◌<◌}
use Rattle.rescue.proofs.lay_logs.Goals as goal

-- a bucket of the order lies on the chip
copy-inside : {z : Sizes} {flash spare : List ℕ} → Readable z flash spare → (order : List ℕ) → all (is_below (body z)) order ≡ true → (i : ℕ) → i < length order
    → get_or order i 0 * (z.p * z.s) + z.p * z.s ≤ length flash
copy-inside {z} readable order below i h =
    let copy = listed (body z) order below i h in
    omega (arith, bucket_data z (get_or order i 0) (on_chip z _ copy), readable.flash_length)

pub slice_bounds-lay_out-end : goal.slice_bounds-lay_out-end
slice_bounds-lay_out-end c =
    let q = c.requires in
    let i = c.next_index-place.result in
    let k = c.args.columns in
    let here : i < length k.order.now = omega (arith, c.if-place-columns.true, q.copies_len.0) in
    omega (arith, copy-inside q.readable k.order.now q.copies_len.1 i here)

pub lay_out-requires-clause-under_len : goal.lay_out-requires-clause-under_len
unfolding bucket_size
lay_out-requires-clause-under_len c =
    let q = c.requires in
    let size = c.args.z.p * c.args.z.s in
    let i = c.next_index-place.result in
    let k = c.args.columns in
    let here : i < length k.order.now = omega (arith, c.if-place-columns.true, q.copies_len.0) in
    lent_length c.args.flash.now (get_or k.order.now i 0 * size) size (copy-inside q.readable k.order.now q.copies_len.1 i here)

pub returns-then-place-columns : goal.returns-then-place-columns
unfolding bucket_size
returns-then-place-columns c =
    let a = c.args in
    let k = a.columns in
    let same = c.requires.copies_len.0 in
    let found = c.next_index-place.ensures in
    let here = c.if-place-columns.true in
    let size = a.z.p * a.z.s in
    λ base sized shows.
    rw (found-member a.b k.copies.now k.order.now same found.0 here (found.1 here), found_first a.b k.copies.now k.order.now same found.0 here (found.1 here))
    (rw (lent_part a.flash.now (get_or k.order.now c.next_index-place.result 0 * size) size) at c.lay_out.ensures)

pub returns-else-place-columns : goal.returns-else-place-columns
returns-else-place-columns c =
    let a = c.args in
    let k = a.columns in
    λ base sized shows.
    rw (found_none a.b k.copies.now k.order.now c.requires.copies_len.0 c.next_index-place.ensures.0 (omega (arith, c.if-place-columns.false)))
    (c.lay_over.ensures base sized shows)

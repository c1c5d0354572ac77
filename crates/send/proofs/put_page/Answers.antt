-- `send::put_page` meets its contract.
use mathlib.Core.Path.{◌≡◌, ◌∙◌}
use mathlib.Core.List.{List}
use Prim.Native.Nat.{ℕ, ◌+◌, ◌*◌, ◌≤◌, ◌<◌}
use native.Mathlib.Nat.{add-sub_cancel_left}
use native.Mathlib.Omega.{arith}
use lib.ListN.{length}
use Rattle.lists.specs.Lists.{part}
use Rattle.model.specs.declared.Sizes.{Sizes}
use Rattle.model.specs.Sizes.{flash_size, spare_size}
use Rattle.model.specs.Stores.{page_data}
use Rattle.model.specs.Mail.{page_frame, page_line}
use Rattle.send.proofs.Lengths.{tag_inside, data_inside}
use Rattle.send.proofs.put_page.Goals as goal

-- the page's parts lie within the chip
inside : (z : Sizes) (page : ℕ) (flash spare : List ℕ) → (length flash ≡ flash_size z) × (length spare ≡ spare_size z) → page < z.c * z.p
    → (page * 16 + 16 ≤ length spare) × (page * z.s + z.s ≤ length flash)
inside z page flash spare lengths h = (rw lengths.1 (tag_inside z page h), rw lengths.0 (data_inside z page h))

pub overflow_mul-spare_at : goal.overflow_mul-spare_at
overflow_mul-spare_at c = let a = c.args in
    omega (arith, inside a.z a.page a.flash.now a.spare.now (c.requires.1, c.requires.2) c.requires.3)

pub overflow_add-spare_end : goal.overflow_add-spare_end
overflow_add-spare_end c = let a = c.args in
    omega (arith, inside a.z a.page a.flash.now a.spare.now (c.requires.1, c.requires.2) c.requires.3)

pub overflow_mul-data_at : goal.overflow_mul-data_at
overflow_mul-data_at c = let a = c.args in
    omega (arith, inside a.z a.page a.flash.now a.spare.now (c.requires.1, c.requires.2) c.requires.3)

pub overflow_add-data_end : goal.overflow_add-data_end
overflow_add-data_end c = let a = c.args in
    omega (arith, inside a.z a.page a.flash.now a.spare.now (c.requires.1, c.requires.2) c.requires.3)

pub slice_bounds-put_line-end-2 : goal.slice_bounds-put_line-end-2
slice_bounds-put_line-end-2 c = let a = c.args in
    omega (arith, inside a.z a.page a.flash.now a.spare.now (c.requires.1, c.requires.2) c.requires.3)

pub slice_bounds-put_line-end-3 : goal.slice_bounds-put_line-end-3
slice_bounds-put_line-end-3 c = let a = c.args in
    omega (arith, inside a.z a.page a.flash.now a.spare.now (c.requires.1, c.requires.2) c.requires.3)

pub returns : goal.returns
unfolding part page_line page_frame page_data
returns c = let a = c.args in
    let place = c.place_bytes-place.ensures in
    c.put_line.ensures ∙ rw (place, add-sub_cancel_left (a.page * 16) 16, add-sub_cancel_left (a.page * a.z.s) a.z.s)

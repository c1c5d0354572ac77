-- `send::check_room` meets its contract.
use mathlib.Core.Path.{◌≡◌, sym, ◌∙◌}
use mathlib.Core.List.{List, []}
use Prim.Native.Nat.{ℕ, ◌*◌, ◌≤◌}
use native.Mathlib.Nat.{mul-le-mul}
use native.Mathlib.Omega.{arith}
use borrow.Author.Tests.{ne_eqb, le-leb, lt-leb}
use lib.ListN.{length}
use Rattle.lists.specs.Lists.{count_below}
use Rattle.lists.proofs.Rows.{count_le}
use Rattle.model.specs.declared.Sizes.{Sizes}
use Rattle.model.specs.Tests.{first_failed}
use Rattle.model.specs.Sizes.{Device, flash_size, spare_size}
use Rattle.model.specs.Mail.{chip_tests, is_listed, text_of}
use Rattle.model.proofs.Limits.{Limits}
use Rattle.model.proofs.Refusals.{refused_lem, handed_on}
use Rattle.model.proofs.MailLengths.{text_length}
use Rattle.geometry.specs.Geometry.{device}
use Rattle.geometry.proofs.Passed.{chip_passed, products}
use Rattle.send.specs.Text.{line_length}
use Rattle.send.proofs.Passed.{room_asked}
use Rattle.send.proofs.check_room.Goals as goal

-- the chip as it was lent
abbrev chip : (flash spare : List ℕ) → Device
chip flash spare = device flash spare []

-- what the chip's tests say
passed : (z : Sizes) (flash spare : List ℕ) → 0 ≡ first_failed (chip_tests z (device flash spare []))
    → Limits z × (length flash ≡ flash_size z) × (length spare ≡ spare_size z)
unfolding chip_tests
passed z flash spare e =
    let p = chip_passed z (chip flash spare) [] (sym e) in
    (p.0, p.1, p.2)

-- the lines counted are the whole text
whole : (z : Sizes) (flash spare : List ℕ) (n l : ℕ) → Limits z × (length flash ≡ flash_size z) × (length spare ≡ spare_size z)
    → n ≡ count_below (z.c * z.p) (is_listed z (device [] spare [])) → l ≡ line_length z
    → n * l ≡ length (text_of z (device flash spare []))
unfolding is_listed
whole z flash spare n l p e f = rw (e, f) (sym (text_length z (chip flash spare) p.1 p.2))

pub returns-in_err-check_chip : goal.returns-in_err-check_chip
returns-in_err-check_chip c = let a = c.args in
    handed_on _ _ c.from_residual.ensures.1
    ∙ rw (room_asked a.z (chip a.flash.now a.spare.now) a.room, ← c.in_err-check_chip.ensures, ne_eqb _ 0 (refused_lem c.in_err-check_chip.field-0.0))

pub listed_pages-requires : goal.listed_pages-requires
listed_pages-requires c = let a = c.args in
    let p = passed a.z a.flash.now a.spare.now c.in_ok-check_chip.ensures in
    (p.0, p.2)

pub line_length-requires : goal.line_length-requires
line_length-requires c = let a = c.args in
    (passed a.z a.flash.now a.spare.now c.in_ok-check_chip.ensures).0

pub overflow_mul-listed_pages : goal.overflow_mul-listed_pages
overflow_mul-listed_pages c = let a = c.args in
    let limits = (passed a.z a.flash.now a.spare.now c.in_ok-check_chip.ensures).0 in
    let count = count_le (a.z.c * a.z.p) (is_listed a.z (device [] a.spare.now [])) in
    let pages : c.listed_pages.result ≤ 16384 = omega (arith, c.listed_pages.ensures, count, (products limits).pages) in
    let line : c.line_length.result ≤ 2087 = omega (arith, c.line_length.ensures, limits.s_high) in
    omega (arith, mul-le-mul pages line)

pub returns : goal.returns
returns c = let a = c.args in
    let d = chip a.flash.now a.spare.now in
    let p = passed a.z a.flash.now a.spare.now c.in_ok-check_chip.ensures in
    let all = whole a.z a.flash.now a.spare.now _ _ p c.listed_pages.ensures c.line_length.ensures in
    let fits = le-leb (length (text_of a.z d)) a.room (rw all at c.if-room-listed_pages.false) in
    rw (room_asked a.z d a.room, ← c.in_ok-check_chip.ensures, fits)

pub returns-then-room-listed_pages : goal.returns-then-room-listed_pages
returns-then-room-listed_pages c = let a = c.args in
    let d = chip a.flash.now a.spare.now in
    let p = passed a.z a.flash.now a.spare.now c.in_ok-check_chip.ensures in
    let all = whole a.z a.flash.now a.spare.now _ _ p c.listed_pages.ensures c.line_length.ensures in
    let short = lt-leb (length (text_of a.z d)) a.room (rw all at c.if-room-listed_pages.true) in
    rw (room_asked a.z d a.room, ← c.in_ok-check_chip.ensures, short)

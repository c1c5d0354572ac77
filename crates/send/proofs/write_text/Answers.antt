-- `send::write_text` meets its contract.
use mathlib.Core.Path.{◌≡◌, sym}
use mathlib.Core.List.{[], ◌∷◌}
use borrow.Author.Tests.{ne_eqb}
use lib.ListN.{length}
use lib.Dec.{leb}
use Rattle.lists.proofs.Splices.{splice_start}
use Rattle.model.specs.Tests.{first_failed}
use Rattle.model.specs.Mail.{text_of, write_tests, write_text}
use Rattle.model.proofs.Refusals.{refused_lem}
use Rattle.geometry.specs.Geometry.{device}
use Rattle.geometry.proofs.Passed.{chip_passed}
use Rattle.send.proofs.Passed.{text_fits}
use Rattle.send.proofs.write_text.Goals as goal

pub returns-in-Err : goal.returns-in-Err
unfolding write_text
returns-in-Err c = rw (c.number.ensures, ← c.in-Err.ensures, ne_eqb _ 0 (refused_lem c.in-Err.refusal))

pub put_pages-length-requires : goal.put_pages-length-requires
unfolding write_tests
put_pages-length-requires c = let a = c.args in
    let d = device a.flash.now a.spare.now [] in
    let room = length a.text.now in
    let none : first_failed (write_tests a.z d room) ≡ 0 = sym c.in_default.ensures in
    let p = chip_passed a.z d ((2, leb (length (text_of a.z d)) room) ∷ []) none in
    record { limits = (p.0, p.1, p.2); spare_in_bounds = text_fits a.z d room none }

pub returns : goal.returns
unfolding write_text
returns c = let a = c.args in
    let put = c.put_pages-length.ensures in
    let passed = sym c.in_default.ensures in
    rw (put.value, put.text_after, passed, splice_start a.text.now (text_of a.z (device a.flash.now a.spare.now [])))

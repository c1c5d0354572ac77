-- `receive::read_text` meets its contract.
use mathlib.Core.Path.{◌≡◌, sym}
use mathlib.Core.List.{[]}
use native.Mathlib.Omega.{arith}
use Rattle.model.specs.Tests.{first_failed}
use Rattle.model.specs.Driving.{lines_of}
use Rattle.model.specs.Mail.{text_fault, read_tests, erased_chip, image_of}
use Rattle.model.proofs.Refusals.{refused_lem}
use Rattle.geometry.specs.Geometry.{device}
use Rattle.model.proofs.MailLines.{all_read}
use Rattle.receive.proofs.Accepted.{accepted, text_refused, text_taken}
use Rattle.receive.proofs.read_text.Goals as goal

pub returns-in-Err : goal.returns-in-Err
returns-in-Err c = let a = c.args in
    rw c.number.ensures (text_refused a.z (device a.flash.now a.spare.now []) a.text.now c.in-Err.ensures (refused_lem c.in-Err.refusal))

pub lay_lines-requires : goal.lay_lines-requires
unfolding text_fault
lay_lines-requires c =
    let a = c.args in
    let d = device a.flash.now a.spare.now [] in
    let taken : first_failed (read_tests a.z d a.text.now) ≡ 0 = sym c.in_default.ensures in
    let pass = accepted a.z d a.text.now taken in record {
      limits = (pass.bounds, all_read a.z [] (lines_of a.text.now) pass.sound);
      flash_len = (omega (arith, c.fill.auto.area, pass.flash_length), omega (arith, c.fill-2.auto.area, pass.spare_length));
    }

pub returns : goal.returns
unfolding image_of erased_chip
returns c =
    let a = c.args in
    let d = device a.flash.now a.spare.now [] in
    let taken : first_failed (read_tests a.z d a.text.now) ≡ 0 = sym c.in_default.ensures in
    let pass = accepted a.z d a.text.now taken in
    rw (c.lay_lines.ensures, c.fill-2.ensures, c.fill.ensures, pass.flash_length, pass.spare_length) (text_taken a.z d a.text.now taken)

-- `receive::check_text` meets its contract.
use mathlib.Core.Path.{sym, ◌∙◌}
use mathlib.Core.List.{[]}
use borrow.Author.Tests.{ne_eqb}
use Rattle.model.proofs.Refusals.{refused_lem, handed_on}
use Rattle.geometry.specs.Geometry.{device}
use Rattle.geometry.proofs.Passed.{chip_limits}
use Rattle.receive.proofs.Accepted.{fault_last}
use Rattle.receive.proofs.check_text.Goals as goal

pub returns-in_err-check_chip : goal.returns-in_err-check_chip
returns-in_err-check_chip c = let a = c.args in
    handed_on _ _ c.from_residual.ensures.1
    ∙ rw (fault_last a.z (device a.flash.now a.spare.now []) a.text.now, ← c.in_err-check_chip.ensures, ne_eqb _ 0 (refused_lem c.in_err-check_chip.field-0.0))

pub first_fault-requires : goal.first_fault-requires
first_fault-requires c = let a = c.args in
    chip_limits a.z (device a.flash.now a.spare.now []) (sym c.in_ok-check_chip.ensures)

pub returns-in-Ok : goal.returns-in-Ok
returns-in-Ok c = let a = c.args in
    rw (fault_last a.z (device a.flash.now a.spare.now []) a.text.now, ← c.in_ok-check_chip.ensures, ← c.in-Ok.ensures.0)

pub returns-in-Err : goal.returns-in-Err
returns-in-Err c = let a = c.args in
    rw (fault_last a.z (device a.flash.now a.spare.now []) a.text.now, ← c.in_ok-check_chip.ensures, ← c.in-Err.ensures.0)

use mathlib.Core.Path.{sym, ◌∙◌}
use borrow.Author.Tests.{eq-eqb, ne_eqb}
use native.Mathlib.Omega.{arith}
use Rattle.model.specs.Sizes.{bucket_size, disk_size}
use Rattle.model.proofs.Refusals.{refused_lem, handed_on}
use Rattle.geometry.specs.Geometry.{device}
use Rattle.geometry.proofs.Passed.{products, chip_limits, lent_first}
use Rattle.geometry.proofs.check_lent.Goals as goal

pub returns-in_err-check_chip : goal.returns-in_err-check_chip
returns-in_err-check_chip c = let a = c.args in
    handed_on _ _ c.from_residual.ensures.1
    ∙ rw (lent_first a.z (device a.flash.now a.spare.now a.disk.now), ← c.in_err-check_chip.ensures, ne_eqb _ 0 (refused_lem c.in_err-check_chip.field-0.0))

pub overflow_mul-z : goal.overflow_mul-z
overflow_mul-z c = let a = c.args in
    omega (arith, products (chip_limits a.z (device a.flash.now a.spare.now a.disk.now) (sym c.in_ok-check_chip.ensures)))

pub overflow_mul-z-2 : goal.overflow_mul-z-2
overflow_mul-z-2 c = let a = c.args in
    omega (arith, products (chip_limits a.z (device a.flash.now a.spare.now a.disk.now) (sym c.in_ok-check_chip.ensures)))

pub returns-then-disk-z : goal.returns-then-disk-z
unfolding disk_size bucket_size
returns-then-disk-z c = let a = c.args in
    rw (lent_first a.z (device a.flash.now a.spare.now a.disk.now), ← c.in_ok-check_chip.ensures, ne_eqb _ _ c.if-disk-z.true)

pub returns : goal.returns
unfolding disk_size bucket_size
returns c = let a = c.args in
    rw (lent_first a.z (device a.flash.now a.spare.now a.disk.now), ← c.in_ok-check_chip.ensures, eq-eqb _ _ c.if-disk-z.false)

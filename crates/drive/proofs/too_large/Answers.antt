-- `drive::too_large` meets its contract.
use Prim.Native.Nat.{◌+◌, ◌≤◌}
use native.Mathlib.Nat.{mul-le-mul}
use native.Mathlib.Omega.{arith}
use mathlib.Core.Path.{refl}
use Rattle.geometry.proofs.Passed.{products}
use Rattle.model.specs.Driving.{too_large}
use Rattle.model.specs.Sizes.{bucket_size, disk_size}
use Rattle.drive.proofs.too_large.Goals as goal

pub overflow_mul-chip : goal.overflow_mul-chip
overflow_mul-chip c = omega (arith, products c.requires)

pub overflow_mul-chip-2 : goal.overflow_mul-chip-2
overflow_mul-chip-2 c = let page : c.args.z.s + 16 ≤ 1040 = omega (arith, c.requires.s_high) in
    omega (arith, mul-le-mul (products c.requires).pages page)

pub overflow_mul-bucket : goal.overflow_mul-bucket
overflow_mul-bucket c = omega (arith, products c.requires)

pub overflow_mul-result : goal.overflow_mul-result
overflow_mul-result c = omega (arith, products c.requires)

pub returns : goal.returns
unfolding too_large disk_size bucket_size
returns c = refl

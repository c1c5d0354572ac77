-- `calls::lengths_of` meets its contract.
use mathlib.Core.Path.{refl}
use native.Mathlib.Omega.{arith}
use Rattle.geometry.proofs.Passed.{products}
use Rattle.model.specs.Sizes.{bucket_size, flash_size, spare_size, disk_size}
use Rattle.calls.proofs.lengths_of.Goals as goal

pub overflow_mul-bucket : goal.overflow_mul-bucket
overflow_mul-bucket c = omega (arith, products c.requires.limits)

pub overflow_mul-flash : goal.overflow_mul-flash
overflow_mul-flash c = omega (arith, products c.requires.limits)

pub overflow_mul-spare : goal.overflow_mul-spare
overflow_mul-spare c = omega (arith, products c.requires.limits)

pub overflow_mul-spare-2 : goal.overflow_mul-spare-2
overflow_mul-spare-2 c = omega (arith, products c.requires.limits)

pub overflow_mul-disk : goal.overflow_mul-disk
overflow_mul-disk c = omega (arith, products c.requires.limits)

pub returns : goal.returns
unfolding bucket_size flash_size spare_size disk_size
returns c = (refl, refl, refl)

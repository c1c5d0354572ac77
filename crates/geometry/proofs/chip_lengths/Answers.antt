use Rattle.geometry.proofs.Passed.{products}
use Rattle.model.specs.Sizes.{flash_size, spare_size, bucket_size}
use Rattle.model.specs.Mail.{chip_lengths}
use native.Mathlib.Omega.{arith}
use mathlib.Core.Path.{refl}
use Rattle.geometry.proofs.chip_lengths.Goals as goal

pub overflow_mul-result : goal.overflow_mul-result
overflow_mul-result c = omega (arith, products c.requires)

pub overflow_mul-result-2 : goal.overflow_mul-result-2
overflow_mul-result-2 c = omega (arith, products c.requires)

pub overflow_mul-result-3 : goal.overflow_mul-result-3
overflow_mul-result-3 c = omega (arith, products c.requires)

pub overflow_mul-result-4 : goal.overflow_mul-result-4
overflow_mul-result-4 c = omega (arith, products c.requires)

pub returns : goal.returns
unfolding chip_lengths flash_size spare_size bucket_size
returns c = refl

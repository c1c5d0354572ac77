use mathlib.Core.Path.{sym}
use native.Mathlib.Omega.{arith}
use Rattle.model.specs.Sizes.{bucket_size}
use Rattle.geometry.proofs.Passed.{products}
use Rattle.checks.proofs.Ranges.{range_beyond, range_left}
use Rattle.checks.proofs.range_fits.Goals as goal

pub overflow_mul-bucket : goal.overflow_mul-bucket
overflow_mul-bucket c = omega (arith, products c.requires)

pub returns-then-bucket-offset : goal.returns-then-bucket-offset
unfolding bucket_size
returns-then-bucket-offset c = let a = c.args in sym (range_beyond a.z a.offset a.length c.if-bucket-offset.true)

pub returns : goal.returns
unfolding bucket_size
returns c = let a = c.args in range_left a.z a.offset a.length (omega (arith, c.if-bucket-offset.false))

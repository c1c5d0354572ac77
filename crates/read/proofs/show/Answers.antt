use native.Mathlib.Omega.{arith}
use Rattle.model.specs.Sizes.{bucket_size}
use Rattle.geometry.proofs.Passed.{products}
use Rattle.read.proofs.show.Goals as goal

pub overflow_mul-z : goal.overflow_mul-z
overflow_mul-z c = omega (arith, products c.requires.limits.0)

pub piece_range-requires : goal.piece_range-requires
unfolding bucket_size
piece_range-requires c = record { size_in_bounds = c.requires.z_in_bounds c.if-cut.false; window_bound = c.requires.limits.1 }

pub returns : goal.returns
unfolding bucket_size
returns c = rw c.if-cut.false c.piece_range.ensures

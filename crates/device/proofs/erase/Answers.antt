use Rattle.geometry.proofs.Places.{bucket_data, bucket_spare}
use Rattle.model.specs.declared.Sizes.{Sizes}
use Rattle.model.specs.Sizes.{bucket_size, flash_size, spare_size}
use native.Mathlib.Omega.{arith}
use Prim.Native.Nat.{ℕ, ◌+◌, ◌*◌, ◌≤◌, ◌<◌}
use borrow.Author.Rules.{rules}
use Rattle.device.proofs.erase.Goals as goal

-- the bucket's data and spare bytes lie within the areas
inside : (z : Sizes) (bucket : ℕ) → bucket < z.c
    → (bucket * (z.p * z.s) + z.p * z.s ≤ flash_size z) × (bucket * z.p * 16 + z.p * 16 ≤ spare_size z)
inside z bucket h = (bucket_data z bucket h, bucket_spare z bucket h)

pub overflow_mul-size : goal.overflow_mul-size
overflow_mul-size c = omega (arith, inside c.args.z c.args.bucket c.requires.2)

pub overflow_mul-bucket : goal.overflow_mul-bucket
overflow_mul-bucket c = omega (arith, inside c.args.z c.args.bucket c.requires.2)

pub fill_at-requires : goal.fill_at-requires
fill_at-requires c = omega (arith, inside c.args.z c.args.bucket c.requires.2)

pub overflow_mul-bucket-2 : goal.overflow_mul-bucket-2
overflow_mul-bucket-2 c = omega (arith, inside c.args.z c.args.bucket c.requires.2)

pub overflow_mul-bucket-3 : goal.overflow_mul-bucket-3
overflow_mul-bucket-3 c = omega (arith, inside c.args.z c.args.bucket c.requires.2)

pub overflow_mul-z : goal.overflow_mul-z
overflow_mul-z c = omega (arith, inside c.args.z c.args.bucket c.requires.2)

pub fill_at-requires-2 : goal.fill_at-requires-2
fill_at-requires-2 c = omega (arith, inside c.args.z c.args.bucket c.requires.2)

pub returns : goal.returns
unfolding bucket_size
returns c = search rules

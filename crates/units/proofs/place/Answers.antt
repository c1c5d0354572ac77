use Rattle.units.proofs.Spliced.{made_inside}
use Rattle.geometry.proofs.Places.{nth_inside}
use Rattle.geometry.proofs.Passed.{products}
use Rattle.model.specs.Sizes.{bucket_size}
use native.Mathlib.Omega.{arith}
use native.Mathlib.Nat.{mul_assoc}
use mathlib.Core.Path.{◌≡◌}
use Prim.Native.Nat.{◌*◌}
use Rattle.units.proofs.place.Goals as goal

pub overflow_mul-first : goal.overflow_mul-first
overflow_mul-first c =
    let z = c.args.z in
    omega (arith, nth_inside c.args.b z.b z.p c.requires.1, (products c.requires.0).units)

pub begins-start-requires : goal.begins-start-requires
begins-start-requires c =
    let z = c.args.z in
    (c.requires.0, omega (arith, nth_inside c.args.b z.b z.p c.requires.1, c.requires.0.p_low))

pub overflow_mul-end : goal.overflow_mul-end
unfolding bucket_size
overflow_mul-end c = omega (arith, made_inside c.args.z c.args.meter c.allowed.ensures, (products c.requires.0).bucket)

pub overflow_add-end : goal.overflow_add-end
unfolding bucket_size
overflow_add-end c =
    let z = c.args.z in
    let start : c.begins-start.result ≡ c.args.b * bucket_size z = rw (c.begins-start.ensures, mul_assoc) in
    omega (arith, start, made_inside z c.args.meter c.allowed.ensures, nth_inside c.args.b z.b (z.p * z.s) c.requires.1, (products c.requires.0).disk)

pub returns : goal.returns
unfolding bucket_size
returns c =
    let start : c.begins-start.result ≡ c.args.b * bucket_size c.args.z = rw (c.begins-start.ensures, mul_assoc) in
    rw (c.allowed.ensures, start)

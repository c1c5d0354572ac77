use Rattle.std.proofs.Common.{◌*◌, ◌≤◌, refl, mul-le-mul, arith}
use Rattle.model.specs.Sizes.{bucket_size}
use Rattle.remerge.proofs.sizes.bucket.Goals as goal

pub returns : goal.returns
unfolding bucket_size
returns c =
    let s : 1 ≤ c.args.z.s = omega (arith, c.requires.s_low) in
    let least : 1 ≤ c.args.z.p * c.args.z.s = mul-le-mul c.requires.p_low s in
    let most : c.args.z.p * c.args.z.s ≤ 65536 = mul-le-mul c.requires.p_high c.requires.s_high in
    (refl, least, most)

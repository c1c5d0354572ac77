use Rattle.std.proofs.Common.{arith, ◌*◌, ◌^◌}
use Rattle.std.proofs.Math.Nat.{mod-le}
use Rattle.std.proofs.Math.Pow.{pow_mono}
use Rattle.restart.proofs.tear.sets.Goals as goal

pub returns : goal.returns
returns c = omega (arith, pow_mono c.in_bucket.ensures.1, mod-le (1 * 2 ^ c.in_bucket.result) (2 ^ 64))

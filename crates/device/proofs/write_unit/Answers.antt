use Rattle.geometry.proofs.Places.{unit_bytes}
use native.Mathlib.Omega.{arith}
use Rattle.device.proofs.write_unit.Goals as goal

pub overflow_mul-index : goal.overflow_mul-index
overflow_mul-index c = omega (arith, unit_bytes c.args.z c.args.index c.requires.1)

pub write_at-requires : goal.write_at-requires
write_at-requires c = omega (arith, unit_bytes c.args.z c.args.index c.requires.1)

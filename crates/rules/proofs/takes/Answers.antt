use Prim.Native.Nat.{◌+◌, ◌*◌, ◌≤◌}
use native.Mathlib.Nat.{mul-le-mul}
use native.Mathlib.Omega.{arith}
use Rattle.rules.proofs.Page.{takes_test}
use Rattle.rules.proofs.takes.Goals as goal

pub overflow_mul-room : goal.overflow_mul-room
overflow_mul-room c = let o = c in
    let h : o.args.pages * o.args.z.s ≤ 255 * 1024 = mul-le-mul {n₂ = 255} (omega arith) o.requires.s_high in
    omega (arith, h)

pub returns : goal.returns
returns c = let o = c in takes_test o.args.z (omega (arith, o.requires.s_low)) (o.args.last + 1) o.args.pages

-- `send::place_bytes` meets its contract.
use mathlib.Core.Path.{◌≡◌}
use Prim.Native.Nat.{◌/◌, ◌%◌}
use native.Mathlib.Nat.{mod-lt, div-le_self}
use native.Mathlib.Omega.{arith}
use Rattle.geometry.proofs.Passed.{products}
use Rattle.send.proofs.place_bytes.Goals as goal

pub overflow_cast-page : goal.overflow_cast-page
overflow_cast-page c = omega (arith, (products c.requires.0).pages, div-le_self c.args.page c.args.z.p)

pub overflow_cast-result : goal.overflow_cast-result
overflow_cast-result c = let some = c.requires.0.p_low in
    omega (arith, c.requires.0.p_high, mod-lt c.args.page some)

pub returns : goal.returns
returns c = let few : c.args.page / c.args.z.p / 256 % 256 ≡ c.args.page / c.args.z.p / 256 = omega (arith, (products c.requires.0).pages, div-le_self c.args.page c.args.z.p) in
    rw (c.to_be_bytes.ensures, few)

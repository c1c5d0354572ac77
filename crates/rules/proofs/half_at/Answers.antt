use native.Mathlib.Omega.{arith}
use Prim.Native.Nat.{◌+◌}
use mathlib.Core.Path.{◌≡◌}
use Rattle.rules.specs.Pages.{low_first}
use Rattle.rules.proofs.half_at.Goals as goal

pub returns : goal.returns
unfolding low_first
returns c = let start = c in
    let i = start.args.i in
    let e2 : i + 1 + 1 ≡ i + 2 = omega arith in
    let e3 : i + 2 + 1 ≡ i + 3 = omega arith in
    let e4 : i + 3 + 1 ≡ i + 4 = omega arith in
    let e5 : i + 4 + 1 ≡ i + 5 = omega arith in
    let e6 : i + 5 + 1 ≡ i + 6 = omega arith in
    let e7 : i + 6 + 1 ≡ i + 7 = omega arith in
    rw (e2, e3, e4, e5, e6, e7) (omega (arith, c.four_low-high.ensures.value, c.four_low-low.ensures.value))

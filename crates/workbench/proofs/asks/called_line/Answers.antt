-- `workbench::asks::called_line` meets its contract.
use Prim.Native.Nat.{ℕ}
use native.Mathlib.Omega.{arith}
use lib.ListN.{length-take, length-replicate}
use Rattle.drive.proofs.Kept.{settled_held}
use Rattle.workbench.proofs.asks.called_line.Goals as goal

pub make_lent-made-requires : goal.make_lent-made-requires
make_lent-made-requires c = let start = c in
    record { framed = (start.requires.framed.0, start.requires.framed.1); arrays = (start.requires.arrays.0, omega (arith, length-replicate {A = ℕ} 65536 0)) }

pub slice_bounds-print-end : goal.slice_bounds-print-end
slice_bounds-print-end c = simp length-take (omega (arith, c.make_lent-made.ensures.0))

pub print-length-requires : goal.print-length-requires
print-length-requires c = let start = c in
    let made = c.make_lent-made.ensures in
    (made.1, omega (arith, start.requires.arrays.1), λ _. simp length-take (omega (arith, made.0, start.requires.arrays.1)))

pub returns : goal.returns
returns c = let start = c in
    let r = start.args.b.recorder in
    (rw c.settle-recorder.ensures (settled_held r.formatted _ r.sizes start.args.z start.requires.framed.2 start.requires.framed.1), c.print-length.ensures.upper_bound)

-- `workbench::bench::on_line` meets its contract.
use Prim.Native.Nat.{ℕ}
use native.Mathlib.Omega.{arith}
use lib.ListN.{length-replicate}
use Rattle.workbench.proofs.bench.on_line.Goals as goal

pub on_digits-requires : goal.on_digits-requires
on_digits-requires c = let start = c in record { hex = (c.is_hex.ensures (c.if-not-is_hex.false), omega (arith, length-replicate {A = ℕ} 4096 0), start.requires.ready); arrays = start.requires.arrays }

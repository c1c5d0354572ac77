-- `workbench::main` meets its contract.
use Prim.Native.Nat.{ℕ}
use lib.ListN.{length-replicate}
use Rattle.workbench.proofs.main.Goals as goal

pub walk_input-walked-requires : goal.walk_input-walked-requires
walk_input-walked-requires c = (
  record { flash_length = length-replicate {A = ℕ} 32768 0; spare_length = length-replicate {A = ℕ} 32768 0; disk_length = length-replicate {A = ℕ} 16384 0 },
  length-replicate {A = ℕ} 8193 0,
  length-replicate {A = ℕ} 262159 0,
)

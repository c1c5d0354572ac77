-- `tugmerov::main` meets its contract.
use lib.ListN.{length-replicate}
use native.Mathlib.Omega.{arith}
use Prim.Native.Nat.{ℕ}
use mathlib.Core.Path.{refl}
use Rattle.tugmerov.proofs.main.Goals as goal

pub walk_input-came-requires : goal.walk_input-came-requires
walk_input-came-requires c = record { piece_len = (length-replicate {A = ℕ} 65536 0, length-replicate {A = ℕ} 513 0, omega (arith, length-replicate {A = ℕ} 65536 0), length-replicate {A = ℕ} 131072 0); flash_value = (refl, refl, refl) }

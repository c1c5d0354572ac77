-- Pages and units lie in the program's arrays.
use Prim.Native.Nat.{ℕ, ◌+◌, ◌*◌, ◌<◌, ◌≤◌}
use native.Mathlib.Nat.{mul_assoc}
use native.Mathlib.Omega.{arith}
use Rattle.geometry.proofs.Places.{nth_inside, unit_bytes}
use Rattle.model.specs.declared.Sizes.{Sizes}
use Rattle.model.specs.Sizes.{bucket_size, flash_size, spare_size}
use Rattle.calls.specs.Arrays.{Held}

module _ (z : Sizes) (held : Held z) (n : ℕ) where
  pub page_room : n < z.c * z.p → (n * 16 + 16 ≤ 32768) × (n * z.s + z.s ≤ 32768)
  unfolding flash_size spare_size bucket_size
  page_room h = (
    omega (arith, nth_inside n (z.c * z.p) 16 h, held.spare_room),
    omega (arith, rw mul_assoc at (nth_inside n (z.c * z.p) z.s h), held.flash_room),
  )

  pub unit_room : n < z.b * z.p → n * z.s + z.s ≤ 16384
  unit_room h = omega (arith, unit_bytes z n h, held.disk_room)

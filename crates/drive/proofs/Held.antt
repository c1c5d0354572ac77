-- Sizes that have room in the arrays: those of a format that is neither refused nor F1, and those kept from line to line.
use mathlib.Core.Path.{◌≡◌, refl}
use mathlib.Core.Bool.{Bool, true, false, ◌||◌, true≢false}
use Prim.Native.Nat.{◌+◌, ◌*◌, ◌≤◌}
use native.Mathlib.Omega.{arith}
use native.Mathlib.Nat.{mul_assoc, mul-add}
use borrow.Author.Tests.{ltb-false}
use lib.Dec.{ltb}
use Rattle.model.specs.declared.Sizes.{Sizes}
use Rattle.model.specs.Sizes.{limits, bucket_size, flash_size, spare_size, disk_size}
use Rattle.model.specs.Driving.{too_large}
use Rattle.model.proofs.Limits.{limits_of}
use Rattle.calls.specs.Arrays.{Held}

neither : (s t : Bool) → s || t ≡ false → (s ≡ false) × (t ≡ false)
neither true t e = absurd (true≢false e)
neither false t e = (refl, e)

pub held_sizes : (z : Sizes) → limits z ≡ true → too_large z ≡ false → Held z
unfolding too_large flash_size spare_size bucket_size
held_sizes z l e =
    let both = neither (ltb 32768 (z.c * z.p * (z.s + 16))) (ltb 16384 (disk_size z)) e in
    let chip : z.c * z.p * (z.s + 16) ≤ 32768 = ltb-false 32768 (z.c * z.p * (z.s + 16)) both.0 in
    let parts = mul-add (z.c * z.p) z.s 16 in
    let data-part = mul_assoc z.c z.p z.s in
    record {
      limits = limits_of z l;
      flash_room = omega arith;
      spare_room = omega arith;
      disk_room = ltb-false 16384 (disk_size z) both.1;
    }

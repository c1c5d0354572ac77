-- What passed tests say of sizes and lent areas, and how large products of sizes are.
use Prim.Native.Nat.{ℕ, ◌*◌, ◌≤◌}
use mathlib.Core.Path.{◌≡◌, refl}
use mathlib.Core.Bool.{Bool, true, false, ◌&&◌}
use mathlib.Core.List.{List, [], ◌∷◌, ◌++◌}
use native.Mathlib.Nat.{mul-le-mul}
use lib.ListN.{length}
use lib.Dec.{eqb}
use borrow.Author.Tests.{eqb-true}
use Rattle.std.specs.Prelude.{if◌then◌else◌}
use Rattle.lists.specs.Lists.{every}
use Rattle.lists.proofs.Tests.{and_left, and_right, every_at}
use Rattle.model.specs.declared.Sizes.{Sizes}
use Rattle.model.specs.Sizes.{Device, limits, lengths, flash_size, spare_size, disk_size}
use Rattle.model.specs.Tests.{Test, first_failed}
use Rattle.model.specs.Calls.{lent_tests}
use Rattle.model.specs.Mail.{chip_lengths, chip_tests}
use Rattle.model.proofs.Calling.{first_passed}
use Rattle.model.proofs.Frames.{Lengths}
use Rattle.model.proofs.Limits.{Limits, limits_of}
use Rattle.geometry.specs.Geometry.{Lent}

module _ (z : Sizes) where
  pub lengths_hold : (d : Device) → lengths z d ≡ true → Lent z d.flash d.spare d.disk
  unfolding lengths
  lengths_hold d h =
      let t = every_at _ h in
      record {
        flash_length = eqb-true (length d.flash) (flash_size z) (t 0);
        spare_length = eqb-true (length d.spare) (spare_size z) (t 1);
        disk_length = eqb-true (length d.disk) (disk_size z) (t 2);
      }

  -- a call that gets past numbers 1 and 2
  pub lent_passed : (d : Device) → first_failed (lent_tests z d) ≡ 0 → Limits z × Lent z d.flash d.spare d.disk
  unfolding lent_tests
  lent_passed d h =
      let one = first_passed 0 _ _ h in
      let two = first_passed 1 _ _ one.1 in
      (limits_of z one.0, lengths_hold d two.0)

module _ (z : Sizes) (d : Device) (ts : List Test) where
  -- what a chip has that gets past them
  pub chip_passed : first_failed (chip_tests z d ++ ts) ≡ 0 → Limits z × (length d.flash ≡ flash_size z) × (length d.spare ≡ spare_size z) × (first_failed ts ≡ 0)
  unfolding chip_tests chip_lengths
  chip_passed h =
      let one = first_passed 0 _ _ h in
      let two = first_passed 1 _ _ one.1 in
      let flash = eqb (length d.flash) (flash_size z) in
      let spare = eqb (length d.spare) (spare_size z) in
      (limits_of z one.0, eqb-true _ _ (and_left flash spare two.0), eqb-true _ _ (and_right flash spare two.0), two.1)

  -- the tests behind them are asked once they are passed
  pub chip_first : first_failed (chip_tests z d ++ ts) ≡ (if eqb (first_failed (chip_tests z d)) 0 then first_failed ts else first_failed (chip_tests z d))
  unfolding chip_tests first_failed
  chip_first = go (limits z) (chip_lengths z d)
    where
      go : (s t : Bool) → first_failed ((1, s) ∷ (2, t) ∷ ts) ≡ (if eqb (first_failed ((1, s) ∷ (2, t) ∷ [])) 0 then first_failed ts else first_failed ((1, s) ∷ (2, t) ∷ []))
      go true true = refl
      go true false = refl
      go false t = refl

-- the chip's tests, and what the disk's length adds to them
module _ (z : Sizes) (d : Device) where
  abbrev pub chip : Device
  chip = record { flash = d.flash; spare = d.spare; disk = [] }

  pub chip_limits : first_failed (chip_tests z chip) ≡ 0 → Limits z
  unfolding chip_tests
  chip_limits h = limits_of z (first_passed 0 _ _ h).0

  pub lent_first : first_failed (lent_tests z d)
      ≡ (if eqb (first_failed (chip_tests z chip)) 0 then (if eqb (length d.disk) (disk_size z) then 0 else 2) else first_failed (chip_tests z chip))
  unfolding lent_tests lengths every chip_tests chip_lengths first_failed
  lent_first = go (limits z) (eqb (length d.flash) (flash_size z)) (eqb (length d.spare) (spare_size z)) (eqb (length d.disk) (disk_size z))
    where
      alone : (l f s : Bool) → ℕ
      alone l f s = if l then (if f && s then 0 else 2) else 1

      go : (l f s t : Bool) → ◌≡◌ {A = ℕ} (if l then (if f && (s && (t && true)) then 0 else 2) else 1) (if eqb (alone l f s) 0 then (if t then 0 else 2) else alone l f s)
      go true true true true = refl
      go true true true false = refl
      go true true false t = refl
      go true false s t = refl
      go false f s t = refl

-- products of sizes within the limits
pub record Products (z : Sizes) : Type 0 where
  pub bucket : z.p * z.s ≤ 65536
  pub pages : z.c * z.p ≤ 16384
  pub units : z.b * z.p ≤ 4194240
  pub flash : z.c * (z.p * z.s) ≤ 16777216
  pub disk : z.b * (z.p * z.s) ≤ 4294901760

pub products : {z : Sizes} → Limits z → Products z
products l = record {
  bucket = mul-le-mul l.p_high l.s_high;
  pages = mul-le-mul l.c_high l.p_high;
  units = mul-le-mul l.b_high l.p_high;
  flash = mul-le-mul l.c_high (mul-le-mul l.p_high l.s_high);
  disk = mul-le-mul l.b_high (mul-le-mul l.p_high l.s_high);
}

pub lengths_of : {z : Sizes} {d : Device} → Lent z d.flash d.spare d.disk → Lengths z d
unfolding flash_size spare_size disk_size
lengths_of l = record { flash_is = l.flash_length; spare_is = l.spare_length; disk_is = l.disk_length }

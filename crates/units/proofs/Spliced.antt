-- The units of a back-end bucket that an allowance lets be made are one splice into the disk.
use Prim.Native.Nat.{ℕ, suc, ◌+◌, ◌-◌, ◌*◌, ◌≤◌, ◌<◌}
use mathlib.Core.Path.{◌≡◌, refl, sym, ap, ◌∙◌}
use mathlib.Core.List.{List}
use native.Mathlib.Nat.{add-zero, add-mul, mul_assoc, suc-mul, zero-mul, mul-le-mul_right}
use native.Mathlib.Omega.{arith}
use lib.ListN.{length, take, drop}
use lib.Seq.{take-add, length-take-le}
use borrow.Rule.Slice.PartMut.{mid_of, put_mid}
use Rattle.lists.specs.Lists.{row, splice, part}
use Rattle.lists.proofs.Parts.{length-splice}
use Rattle.lists.proofs.Splices.{splice-none, splice_next}
use Rattle.lists.proofs.Windows.{part-part}
use Rattle.lists.proofs.Lent.{put_back, lent_part, lent_length}
use Rattle.model.specs.declared.Sizes.{Sizes}
use Rattle.model.specs.Sizes.{bucket_size, disk_size}
use Rattle.model.specs.Stores.{apply, unit_store, unit_stores}
use Rattle.geometry.specs.Geometry.{device}
use Rattle.geometry.proofs.Places.{nth_inside}
use Rattle.meter.specs.declared.Meter.{Meter}
use Rattle.meter.specs.Run.{running, allowed, spent, run_all}
use Rattle.meter.proofs.Runs.{row_run}
use Rattle.std.specs.declared.ops.Range.{Range}

-- the bytes of a back-end bucket lie on the disk, and those of the units that are made lie among them
pub bytes_inside : (z : Sizes) (b : ℕ) (disk : List ℕ) → b < z.b → length disk ≡ disk_size z → b * bucket_size z + bucket_size z ≤ length disk
unfolding disk_size
bytes_inside z b disk back len = omega (arith, nth_inside b z.b (bucket_size z) back, len)

pub made_inside : (z : Sizes) (m : Meter) {count : ℕ} → count ≡ allowed z.p m → count * z.s ≤ bucket_size z
unfolding bucket_size
made_inside z m many = mul-le-mul_right z.s (omega (arith, many))

module _ (z : Sizes) (b : ℕ) (bytes flash spare disk : List ℕ) (m : Meter) (size : length bytes ≡ bucket_size z) (inside : b * bucket_size z + bucket_size z ≤ length disk) where
  -- so many of the bucket's bytes on the disk
  abbrev written : ℕ → List ℕ
  written n = splice disk (b * bucket_size z) (take n bytes)

  -- one unit more
  written_more : (n : ℕ) → n < z.p → splice (written (n * z.s)) ((b * z.p + n) * z.s) (part bytes (n * z.s) z.s) ≡ written (suc n * z.s)
  unfolding bucket_size part
  written_more n h =
      let here : n * z.s ≤ z.p * z.s = mul-le-mul_right z.s (omega arith) in
      let all : length (take (n * z.s) bytes) ≡ n * z.s = length-take-le (n * z.s) bytes (omega arith) in
      let place : (b * z.p + n) * z.s ≡ b * (z.p * z.s) + length (take (n * z.s) bytes) = rw (add-mul, mul_assoc, all) in
      rw (place, suc-mul, take-add)
      (splice_next disk (b * (z.p * z.s)) (take (n * z.s) bytes) (take z.s (drop (n * z.s) bytes)) (omega arith))

  none : written (0 * z.s) ≡ disk
  none = rw (zero-mul z.s) (splice-none disk (b * bucket_size z))

  leads : (n : ℕ) → n < z.p → apply z (device flash spare (written (n * z.s))) (unit_store z b bytes n) ≡ device flash spare (written (suc n * z.s))
  unfolding apply unit_store
  leads n h = rw (written_more n h)

  units_spliced : run_all z (unit_stores z b bytes) (running flash spare disk m) ≡ running flash spare (written (allowed z.p m * z.s)) (spent z.p m)
  unfolding unit_stores
  units_spliced =
      ap (λ (l : List ℕ). run_all z (row z.p (unit_store z b bytes)) (running flash spare l m)) (sym none)
      ∙ row_run z (unit_store z b bytes) (λ k. device flash spare (written (k * z.s))) m z.p leads

-- code lends the part of the disk for the units that are made
module _ (z : Sizes) (b : ℕ) (disk : List ℕ) (m : Meter) (inside : b * bucket_size z + bucket_size z ≤ length disk) {lent : Range ℕ}
    (placed : lent ≡ record { start = b * bucket_size z; end = b * bucket_size z + allowed z.p m * z.s }) where
  abbrev at : ℕ
  at = b * bucket_size z

  abbrev n : ℕ
  n = allowed z.p m * z.s

  many : n ≤ bucket_size z
  many = made_inside z m refl

  pub lent_order : lent.start ≤ lent.end
  lent_order = rw placed (omega arith)

  pub lent_end : lent.end ≤ length disk
  lent_end = rw placed (omega (arith, many))

  pub lent_most : length (mid_of lent.start (lent.end - lent.start) disk) ≤ bucket_size z
  lent_most = rw placed (omega (arith, many, lent_length disk at n (omega (arith, many))))

  -- it shows what the disk has of the bucket
  pub lent_shows : mid_of lent.start (lent.end - lent.start) disk ≡ part (part disk at (bucket_size z)) 0 (length (mid_of lent.start (lent.end - lent.start) disk))
  lent_shows =
      rw (placed, lent_length disk at n (omega (arith, many)), lent_part disk at n)
      (sym (part-part disk at (bucket_size z) 0 n (omega (arith, many)) inside ∙ ap (λ (i : ℕ). part disk i n) (add-zero at)))

  -- and comes back with their bytes
  module _ (bytes : List ℕ) (size : length bytes ≡ bucket_size z) {back : List ℕ} (laid : back ≡ part bytes 0 (length (mid_of lent.start (lent.end - lent.start) disk))) where
    made : length (take n bytes) ≡ n
    made = length-take-le n bytes (omega (arith, many))

    put : put_mid lent.start (lent.end - lent.start) disk back ≡ splice disk at (take n bytes)
    unfolding part
    put = rw placed (put_back disk at n (rw (placed, lent_length disk at n (omega (arith, many))) at laid) made)

    pub laid_length : length (put_mid lent.start (lent.end - lent.start) disk back) ≡ length disk
    laid_length = ap length put ∙ length-splice disk at (take n bytes) (omega (arith, made, many))

    pub units_laid : {left : Meter} → left ≡ spent z.p m → (flash spare : List ℕ)
        → running flash spare (put_mid lent.start (lent.end - lent.start) disk back) left ≡ run_all z (unit_stores z b bytes) (running flash spare disk m)
    units_laid rest flash spare = rw (rest, put) (sym (units_spliced z b bytes flash spare disk m size inside))

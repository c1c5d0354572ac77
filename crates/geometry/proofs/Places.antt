-- Pages, buckets and units lie within the areas of their lengths.
use Prim.Native.Nat.{ℕ, ◌+◌, ◌*◌, ◌<◌, ◌≤◌}
use native.Mathlib.Nat.{add-mul, one-mul, mul_assoc, mul-le-mul_right}
use native.Mathlib.Omega.{arith}
use Rattle.model.specs.declared.Sizes.{Sizes}
use Rattle.model.specs.Sizes.{bucket_size, flash_size, spare_size, disk_size}

-- the q-th of N things of n elements each
pub nth_inside : (q N n : ℕ) → q < N → q * n + n ≤ N * n
nth_inside q N n h =
    let next : q + 1 ≤ N = omega arith in
    rw (add-mul, one-mul) at (mul-le-mul_right n next)

-- page k of bucket b is one of the c × p pages
pub page_below : (b k c p : ℕ) → b < c → k < p → b * p + k < c * p
page_below b k c p hb hk = omega (arith, nth_inside b c p hb)

module _ (z : Sizes) where
  pub page_data_lem : (b k : ℕ) → b < z.c → k < z.p → (b * z.p + k) * z.s + z.s ≤ flash_size z
  unfolding flash_size bucket_size
  page_data_lem b k hb hk = rw mul_assoc at (nth_inside (b * z.p + k) (z.c * z.p) z.s (page_below b k z.c z.p hb hk))

  pub page_spare : (b k : ℕ) → b < z.c → k < z.p → (b * z.p + k) * 16 + 16 ≤ spare_size z
  unfolding spare_size
  page_spare b k hb hk = nth_inside (b * z.p + k) (z.c * z.p) 16 (page_below b k z.c z.p hb hk)

  pub bucket_data : (b : ℕ) → b < z.c → b * (z.p * z.s) + z.p * z.s ≤ flash_size z
  unfolding flash_size bucket_size
  bucket_data b h = nth_inside b z.c (z.p * z.s) h

  pub bucket_spare : (b : ℕ) → b < z.c → b * z.p * 16 + z.p * 16 ≤ spare_size z
  unfolding spare_size
  bucket_spare b h = rw add-mul at (mul-le-mul_right 16 (nth_inside b z.c z.p h))

  pub unit_bytes : (u : ℕ) → u < z.b * z.p → u * z.s + z.s ≤ disk_size z
  unfolding disk_size bucket_size
  unit_bytes u h = rw mul_assoc at (nth_inside u (z.b * z.p) z.s h)

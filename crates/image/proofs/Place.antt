-- A page of a bucket lies within the chip, and its spare bytes within the spare area.
use Prim.Native.Nat.{ℕ, suc, ◌+◌, ◌*◌, ◌≤◌, ◌<◌}
use native.Mathlib.Nat.{mul-le-mul_right}
use native.Mathlib.Omega.{arith}
use mathlib.Core.Path.{◌≡◌, ap}
use mathlib.Core.List.{List}
use lib.ListN.{length}
use Rattle.lists.specs.Lists.{part}
use Rattle.model.specs.declared.Sizes.{Sizes}
use Rattle.model.specs.Sizes.{page_index, spare_size}
use Rattle.model.specs.Spare.{blank}
use Rattle.model.specs.Stores.{tag_of}
use Rattle.spare.specs.Fields.{blank_from}
use Rattle.image.specs.Chip.{Chip, spare_only}

-- unit k of row c lies within the rows
pub inside_rows : {c k rows width : ℕ} → c < rows → k < width → c * width + k < rows * width
inside_rows {c} {k} {rows} {width} h g = let e : suc c * width ≤ rows * width = mul-le-mul_right width h in omega arith

pub page_inside : {z : Sizes} {spare : List ℕ} {c k : ℕ} → Chip z spare → c < z.c → k < z.p → (c * z.p + k) * 16 + 16 ≤ length spare
unfolding spare_size
page_inside {z} {spare} {c} {k} chip h g = let q : c * z.p + k < z.c * z.p = inside_rows h g in omega (arith, chip.spare_length)

pub bucket_inside : {z : Sizes} {spare : List ℕ} → Chip z spare → (c : ℕ) → c < z.c → (c * z.p + z.p) * 16 ≤ length spare
unfolding spare_size
bucket_inside {z} chip c h = let q : suc c * z.p ≤ z.c * z.p = mul-le-mul_right z.p h in omega (arith, chip.spare_length)

-- page j of those from page n of the bucket c on
pub page_from : (z : Sizes) (spare : List ℕ) (c n j : ℕ) → blank_from spare (c * z.p + n) j ≡ blank (tag_of z (spare_only spare) c (n + j))
unfolding blank_from tag_of page_index
page_from z spare c n j = let e : c * z.p + n + j ≡ c * z.p + (n + j) = omega arith in ap (λ (i : ℕ). blank (part spare (i * 16) 16)) e

-- The bytes of a page, and of a bucket, lie within their areas.
use Rattle.std.proofs.Common.{◌≡◌, ℕ, ◌+◌, ◌*◌, ◌<◌, ◌≤◌, List, length}
use Rattle.model.specs.declared.Sizes.{Sizes}
use Rattle.model.specs.Sizes.{flash_size}
use Rattle.image.specs.Chip.{Chip}
use Rattle.geometry.proofs.Places.{nth_inside, page_data_lem, page_spare}

-- n is the length of the flash
pub inside : {z : Sizes} {c k n : ℕ} {spare : List ℕ} → Chip z spare → n ≡ flash_size z → (c < z.c) × (k < z.p)
    → ((c * z.p + k) * z.s + z.s ≤ n) × ((c * z.p + k) * 16 + 16 ≤ length spare)
inside {z} {c} {k} chip long there = (rw long (page_data_lem z c k there.0 there.1), rw chip.spare_length (page_spare z c k there.0 there.1))

-- a piece of an area of so many, all of one size
pub piece_inside : (count size i : ℕ) {n : ℕ} → count * size ≡ n → i < count → i * size + size ≤ n
piece_inside count size i whole there = rw whole at (nth_inside i count size there)

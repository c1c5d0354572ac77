-- Windows on a back-end bucket's bytes, and the chips whose logs are laid over them.
use Rattle.std.specs.Prelude.{ℕ, ◌+◌, ◌-◌, ◌*◌, ◌≤◌, ◌<◌, ◌≡◌, true, List, [], length}
use Rattle.lists.specs.Lists.{part}
use Rattle.model.specs.declared.Sizes.{Sizes}
use Rattle.model.specs.Sizes.{Device, bucket_size, flash_size, spare_size}
use Rattle.model.specs.Image.{body_fits}
use Rattle.model.proofs.Limits.{Limits}
use Rattle.geometry.specs.Geometry.{device}
use Rattle.spare.specs.declared.Fields.{Fields}
use Rattle.image.specs.Chip.{spare_only}

-- a chip lent without the disk; the laws of `proofs/SameChip` carry its merges over to every device with this chip
abbrev pub chip : (flash spare : List ℕ) → Device
chip flash spare = device flash spare []

-- a spare area that numbers 1, 2 and 4 let pass
pub record Tagged (z : Sizes) (spare : List ℕ) : Type 0 where
  pub limits : Limits z
  pub spare_length : length spare ≡ spare_size z
  pub body_formed : body_fits z (spare_only spare) ≡ true

-- a chip that they let pass
pub record Readable (z : Sizes) (flash spare : List ℕ) : Type 0 where
  pub limits : Limits z
  pub flash_length : length flash ≡ flash_size z
  pub spare_length : length spare ≡ spare_size z
  pub body_formed : body_fits z (spare_only spare) ≡ true

-- a window that shows one whole from an index on comes to show another
abbrev pub Turns : (from : ℕ) (whole result before after : List ℕ) → Type 0
Turns from whole result before after = before ≡ part whole from (length before) → after ≡ part result from (length before)

-- a log that ends at page k has its pages there, and its bytes within the back-end bucket
pub record LogPlace (z : Sizes) (k : ℕ) (f : Fields) : Type 0 where
  pub page : k < z.p
  pub pages : f.pages ≤ k + 1
  pub stored : (k + 1 - f.pages) * z.s + (f.last + 1) ≤ bucket_size z
  pub place : f.offset + (f.last + 1) ≤ bucket_size z

-- its bytes on the chip
unfoldable pub log_part : (z : Sizes) (c k : ℕ) → Fields → List ℕ → List ℕ
log_part z c k f flash = part flash (c * bucket_size z + (k + 1 - f.pages) * z.s) (f.last + 1)

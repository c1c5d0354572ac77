-- Sizes within their limits and areas of their lengths, as facts that contracts ask for.
use Rattle.std.specs.Prelude.{ℕ, ◌≡◌, List, length}
use Rattle.model.specs.declared.Sizes.{Sizes}
use Rattle.model.specs.Sizes.{Device, flash_size, spare_size, disk_size}

-- the lent areas as chip and disk
abbrev pub device : (flash spare disk : List ℕ) → Device
device f s d = record { flash = f; spare = s; disk = d }

-- what number 2 says once it is passed
pub record Lent (z : Sizes) (flash spare disk : List ℕ) : Type 0 where
  pub flash_length : length flash ≡ flash_size z
  pub spare_length : length spare ≡ spare_size z
  pub disk_length : length disk ≡ disk_size z

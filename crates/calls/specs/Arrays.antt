-- The program's arrays, and sizes that have room in them.
use Rattle.std.specs.Prelude.{ℕ, ◌≤◌, ◌≡◌, List, [], length, if◌then◌else◌}
use Rattle.model.specs.declared.Sizes.{Sizes}
use Rattle.model.specs.Sizes.{Device, flash_size, spare_size, disk_size}
use Rattle.model.specs.Calls.{is_done}
use Rattle.model.specs.Driving.{give_back}
use Rattle.model.proofs.Limits.{Limits}
use Rattle.outcome.specs.Handed.{Handed}

-- "Its flash buffer is 32,768 bytes, spare areas included; its disk is 16,384"
pub record Arrays (flash spare disk : List ℕ) : Type 0 where
  pub flash_length : length flash ≡ 32768
  pub spare_length : length spare ≡ 32768
  pub disk_length : length disk ≡ 16384

-- the most bytes that a line may ask for: its length field has two bytes
abbrev pub most_read : ℕ
most_read = 65535

-- sizes within their limits whose parts lie in the arrays
pub record Held (z : Sizes) : Type 0 where
  pub limits : Limits z
  pub flash_room : flash_size z ≤ 32768
  pub spare_room : spare_size z ≤ 32768
  pub disk_room : disk_size z ≤ 16384

-- what a call on the lent parts hands back, with the whole arrays
unfoldable pub in_arrays : Sizes → Device → Handed → Handed
in_arrays z a h = record { outcome = h.outcome; device = give_back z a h.device; buffer = h.buffer }

-- "bytes read if Done": with another answer the lent buffer counts for nothing
unfoldable pub seen : Handed → Handed
seen h = record { outcome = h.outcome; device = h.device; buffer = if is_done h.outcome.answer then h.buffer else [] }

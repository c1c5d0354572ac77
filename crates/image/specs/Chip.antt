-- Chips whose spare area is lent alone.
use Rattle.std.specs.Prelude.{ℕ, ◌-◌, ◌<◌, ◌≡◌, true, List, [], length, eqb}
use Rattle.model.specs.declared.Sizes.{Sizes}
use Rattle.model.specs.Sizes.{Device, body, spare_size}
use Rattle.model.specs.Stores.{tag_of}
use Rattle.model.specs.Spare.{blank, spoiled, kind}
use Rattle.model.specs.Image.{head_tag}
use Rattle.model.proofs.Limits.{Limits}

-- a spare area that belongs to the sizes
pub record Chip (z : Sizes) (spare : List ℕ) : Type 0 where
  pub limits : Limits z
  pub spare_length : length spare ≡ spare_size z

-- a device with this spare area and nothing else
abbrev pub spare_only : List ℕ → Device
spare_only spare = record { flash = []; spare = spare; disk = [] }

-- page k speaks for the bucket c: those before it are spoiled, and it is not, or is the last
pub record HeadAt (z : Sizes) (d : Device) (c k : ℕ) : Type 0 where
  pub inside : k < z.p
  pub is : head_tag z d c ≡ tag_of z d c k
  pub before : (i : ℕ) → i < k → spoiled (tag_of z d c i) ≡ true
  pub last : spoiled (tag_of z d c k) ≡ true → k ≡ z.p - 1

-- outside the ledger the head of a bucket is blank if it has no kind
abbrev pub Headed : Sizes → Device → Type 0
Headed z d = (c : ℕ) → c < body z → blank (head_tag z d c) ≡ eqb (kind (head_tag z d c)) 255

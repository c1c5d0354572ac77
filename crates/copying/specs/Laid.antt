-- The bytes of a back-end bucket by where they stand, and a cache bucket that they can be laid into.
use Rattle.std.specs.Prelude.{ℕ, ◌<◌, ◌≡◌, true, false, ◌≢◌, List, Option, Some, None, IfSome}
use Rattle.lists.specs.Lists.{all, member}
use Rattle.model.specs.declared.Sizes.{Sizes}
use Rattle.model.specs.declared.Entry.{Entry}
use Rattle.model.specs.Sizes.{Device, body}
use Rattle.model.specs.Stores.{bucket_bytes, disk_bytes}
use Rattle.model.specs.Image.{body_fits}
use Rattle.model.specs.State.{is_below}
use Rattle.model.specs.Recover.{merge_all}
use Rattle.model.proofs.Limits.{Limits}
use Rattle.geometry.specs.Geometry.{Lent}
use Rattle.image.specs.Chip.{spare_only}

module _ (z : Sizes) (d : Device) where
  -- the bytes of the read bucket, or those on the disk
  unfoldable pub under_bytes : Option Entry → ℕ → List ℕ
  under_bytes (Some copy) b = bucket_bytes z d copy.cache
  under_bytes None b = disk_bytes z d b

  -- the complete logs of the listed cache buckets over them
  abbrev pub listed_bytes : List ℕ → Option Entry → ℕ → List ℕ
  listed_bytes list base b = merge_all z d list (under_bytes base b)

-- areas and an image that numbers 1, 2 and 4 let pass; the bytes come from the disk and from cache buckets that are not the one that they are laid into
pub record Laid (z : Sizes) (list : List ℕ) (base : Option Entry) (b target : ℕ) (flash spare disk : List ℕ) : Type 0 where
  pub limits : Limits z
  pub lent : Lent z flash spare disk
  pub body_formed : body_fits z (spare_only spare) ≡ true
  pub back : b < z.b
  pub bucket : target < z.c
  pub logs : all (is_below (body z)) list ≡ true
  pub logs_aside : member target list ≡ false
  pub read : IfSome base (λ copy. copy.cache < body z)
  pub read_aside : IfSome base (λ copy. copy.cache ≢ target)

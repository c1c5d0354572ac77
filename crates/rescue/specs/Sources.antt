-- What recovery relies on once its erases are made: chip and disk, the columns; and what it writes then.
use Rattle.std.specs.Prelude.{◌≡◌, true, List, ℕ}
use Rattle.lists.specs.Lists.{below, keep, concat_map}
use Rattle.model.specs.declared.Sizes.{Sizes}
use Rattle.model.specs.Image.{body_fits}
use Rattle.model.specs.Sizes.{Device}
use Rattle.model.specs.Stores.{Store}
use Rattle.model.specs.Recover.{is_rescued, rescue_stores}
use Rattle.model.proofs.Limits.{Limits}
use Rattle.geometry.specs.Geometry.{Lent}
use Rattle.image.specs.Chip.{spare_only}
use Rattle.meter.specs.declared.Run.{Run}
use Rattle.classes.specs.Columns as classes
use Rattle.rescue.specs.declared.Columns.{Columns}

pub record Recoverable (z : Sizes) (flash spare disk : List ℕ) : Type 0 where
  pub limits : Limits z
  pub lent : Lent z flash spare disk
  pub body_formed : body_fits z (spare_only spare) ≡ true

abbrev pub RecoverableIn : Sizes → Run → Type 0
RecoverableIn z r = Recoverable z r.flash.now r.spare.now r.disk.now

-- the code's columns are those of the definitions
abbrev pub Listed : Sizes → (spare : List ℕ) → Columns → Type 0
Listed z spare k = classes.Columns z (spare_only spare) k.order.now k.writes.now k.dropped_writes.now k.copies.now k.dropped_copies.now

-- the units of every rescued back-end bucket
unfoldable pub rescues : Sizes → Device → List Store
rescues z d = concat_map (rescue_stores z d) (keep (is_rescued z d) (below z.b))

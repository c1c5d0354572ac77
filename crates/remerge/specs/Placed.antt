-- Cache buckets that bytes are laid in.
use Rattle.std.specs.Prelude.{◌≡◌, ℕ, ◌<◌, ◌≤◌, false, ◌≢◌, List}
use Rattle.lists.specs.Lists.{member}
use Rattle.model.specs.declared.Sizes.{Sizes}
use Rattle.model.specs.Sizes.{bucket_size}
use Rattle.remerge.specs.declared.within.Place.{Place}

-- the target is not listed, and is not the base
pub record Placed (z : Sizes) (p : Place) (list : List ℕ) : Type 0 where
  pub target : p.target < z.c
  pub base : p.base < z.c
  pub length : p.length ≤ bucket_size z
  pub apart : p.base ≢ p.target
  pub unlisted : member p.target list ≡ false

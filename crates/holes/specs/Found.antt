-- The pages that speak for buckets, as recovery finds them.
use Rattle.std.specs.Prelude.{ℕ, ◌<◌, ◌≡◌, true}
use Rattle.model.specs.declared.Sizes.{Sizes}
use Rattle.model.specs.Sizes.{Device}
use Rattle.model.specs.Stores.{tag_of}
use Rattle.model.specs.Spare.{programmed}
use Rattle.model.specs.Ledger.{first_tag, occupied}

module _ (z : Sizes) (d : Device) (c : ℕ) where
  -- page k speaks for the bucket: it is its first programmed page, or the bucket has none
  pub record Speaks (k : ℕ) : Type 0 where
    pub inside : k < z.p
    pub tells : occupied z d c ≡ programmed (tag_of z d c k)
    pub is : programmed (tag_of z d c k) ≡ true → first_tag z d c ≡ tag_of z d c k

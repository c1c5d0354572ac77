-- Where the bytes of a back-end bucket come from.
use Rattle.std.specs.Prelude.{ℕ, ◌<◌, ◌≡◌, true, List}
use Rattle.model.specs.Sizes.{body}
use Rattle.model.specs.Image.{body_fits}
use Rattle.model.specs.State.{State, cache_of}
use Rattle.model.proofs.Limits.{Limits}
use Rattle.geometry.specs.Geometry.{Lent}
use Rattle.image.specs.Chip.{spare_only}

-- areas and an image that numbers 1, 2 and 4 let pass; the back-end bucket b is on the disk, and its cache buckets are such as stand in queues
pub record Sources (s : State) (b : ℕ) (flash spare disk : List ℕ) : Type 0 where
  pub limits : Limits s.sizes
  pub lent : Lent s.sizes flash spare disk
  pub body_formed : body_fits s.sizes (spare_only spare) ≡ true
  pub back : b < s.sizes.b
  pub read : cache_of b s.reads < body s.sizes
  pub write : cache_of b s.writes < body s.sizes

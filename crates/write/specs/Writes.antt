-- What the tests leave a write to rely on.
use Rattle.std.specs.Prelude.{ℕ, ◌≤◌, ◌<◌, ◌≡◌, true, List}
use Rattle.model.specs.Sizes.{bucket_size}
use Rattle.model.specs.Image.{body_fits, used, blanks}
use Rattle.model.specs.State.{State, holds, cache_of, blank_of}
use Rattle.model.specs.Operations.{last_epoch}
use Rattle.image.specs.Chip.{spare_only}
use Rattle.steps.specs.Ready.{Ready}
use Rattle.copying.specs.Fresh.{Single}

-- any Write bucket can be evicted, and an epoch is left for the log
pub record Yields (s : State) (spare : List ℕ) : Type 0 where
  pub ready : Ready s
  pub single : Single s
  pub body_formed : body_fits s.sizes (spare_only spare) ≡ true
  pub backs : (k : ℕ) → holds k s.writes ≡ true → k < s.sizes.b
  pub epochs : s.next ≤ last_epoch

-- n bytes fit into a bucket; a Write bucket that they may go to has a programmed page, and the blank pages that its record says
pub record Writes (s : State) (n : ℕ) (spare : List ℕ) : Type 0 where
  pub yields : Yields s spare
  pub programmed : (k : ℕ) → holds k s.writes ≡ true → used s.sizes (spare_only spare) (cache_of k s.writes) ≡ true
  pub counts : (k : ℕ) → holds k s.writes ≡ true → blanks s.sizes (spare_only spare) (cache_of k s.writes) ≡ blank_of k s.writes
  pub some : 1 ≤ n
  pub room : n ≤ bucket_size s.sizes

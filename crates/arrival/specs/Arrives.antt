-- When a log of n bytes has a place.
use Rattle.std.specs.Prelude.{ℕ, ◌≤◌, ◌<◌, ◌≡◌, Bool, true, ◌&&◌, List, length, leb}
use Rattle.model.specs.Sizes.{bucket_size, pages_for}
use Rattle.model.specs.Image.{used, blanks}
use Rattle.model.specs.State.{State, holds, cache_of, blank_of}
use Rattle.model.proofs.Limits.{Limits}
use Rattle.image.specs.Chip.{spare_only}
use Rattle.copying.specs.Fresh.{Fresh}

-- b's Write bucket has n blank pages or more, by the count in its record
unfoldable pub kept_fits : (b n : ℕ) → State → Bool
kept_fits b n s = holds b s.writes && leb n (blank_of b s.writes)

-- in b's Write bucket, whose blank pages are enough and as many as its record says
pub record Appends (s : State) (b n : ℕ) (spare : List ℕ) : Type 0 where
  pub limits : Limits s.sizes
  pub bucket : cache_of b s.writes < s.sizes.c
  pub programmed : used s.sizes (spare_only spare) (cache_of b s.writes) ≡ true
  pub some : 1 ≤ n
  pub room : n ≤ bucket_size s.sizes
  pub pages : pages_for s.sizes n ≤ blank_of b s.writes
  pub count : blanks s.sizes (spare_only spare) (cache_of b s.writes) ≡ blank_of b s.writes

-- in a new one, for which the write queue has a place
pub record Starts (s : State) (n : ℕ) : Type 0 where
  pub fresh : Fresh s n
  pub place : length s.writes < 64

-- When the least recent read bucket can give way.
use Rattle.std.specs.Prelude.{ℕ, ◌+◌, ◌≤◌, ◌<◌, ◌≡◌, length, get_or}
use Rattle.model.specs.declared.Sizes.{Sizes}
use Rattle.model.specs.Sizes.{body}
use Rattle.model.specs.State.{State}
use Rattle.model.proofs.Limits.{Limits}
use Rattle.queue.specs.View.{no_entry}
use Rattle.steps.specs.Ready.{Orderly}

-- a back-end bucket of the disk and a cache bucket of the chip
pub record Places (z : Sizes) (b c : ℕ) : Type 0 where
  pub limits : Limits z
  pub back : b < z.b
  pub cache : c < z.c

-- the queues hold all buckets that stand in queues and are not too long; the least recent read bucket's back-end bucket is on the disk
pub record Drops (s : State) : Type 0 where
  pub orderly : Orderly s
  pub total : length s.reads + length s.writes + length s.gc + length s.free ≡ body s.sizes
  pub reads : length s.reads ≤ s.sizes.r
  pub writes : length s.writes ≤ s.sizes.w
  pub back : 1 ≤ length s.reads → (get_or s.reads 0 no_entry).back < s.sizes.b

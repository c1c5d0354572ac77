-- What every step of an operation leaves true of the state, so that another may follow.
use Rattle.std.specs.Prelude.{◌+◌, ◌≤◌, ◌≡◌, true, length}
use Rattle.lists.specs.Lists.{all}
use Rattle.model.specs.Sizes.{body}
use Rattle.model.specs.State.{State, caches, is_below}
use Rattle.model.proofs.Limits.{Limits}
use Rattle.state.specs.View.{Bounded}

-- sizes within their limits, queues within the struct's places, and each cache bucket in them one that may stand there
pub record Orderly (s : State) : Type 0 where
  pub limits : Limits s.sizes
  pub bounded : Bounded s
  pub reads : all (is_below (body s.sizes)) (caches s.reads) ≡ true
  pub writes : all (is_below (body s.sizes)) (caches s.writes) ≡ true
  pub gc : all (is_below (body s.sizes)) s.gc ≡ true
  pub free : all (is_below (body s.sizes)) s.free ≡ true

-- and Allocate finds a bucket
pub record Ready (s : State) : Type 0 where
  pub orderly : Orderly s
  pub some : 1 ≤ length s.gc + length s.free

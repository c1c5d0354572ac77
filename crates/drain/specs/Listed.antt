-- When a drain can be made, and the list of what it writes.
use Rattle.std.specs.Prelude.{ℕ, ◌≡◌, true, List}
use Rattle.lists.specs.Lists.{member}
use Rattle.model.specs.Image.{body_fits}
use Rattle.model.specs.State.{State, state_fits}
use Rattle.model.specs.Operations.{unclean}
use Rattle.image.specs.Chip.{spare_only}
use Rattle.steps.specs.Ready.{Orderly}

-- the state's queues fit a chip made by the page rules
pub record Drains (s : State) (spare : List ℕ) : Type 0 where
  pub orderly : Orderly s
  pub body_formed : body_fits s.sizes (spare_only spare) ≡ true
  pub fits : state_fits s (spare_only spare) ≡ true

-- and the unclean back-end buckets are the listed ones
pub record Listed (s : State) (spare backs : List ℕ) : Type 0 where
  pub drains : Drains s spare
  pub listed : (b : ℕ) → unclean s.sizes (spare_only spare) s b ≡ member b backs

-- When a read can be made, and what one that makes a copy hands back.
use Rattle.std.specs.Prelude.{ℕ, ◌+◌, ◌≤◌, ◌<◌, ◌≡◌, true, List}
use Rattle.model.specs.Sizes.{Device, bucket_size}
use Rattle.model.specs.Image.{body_fits}
use Rattle.model.specs.State.{State}
use Rattle.model.specs.Steps.{merged}
use Rattle.model.specs.Operations.{read_copy}
use Rattle.model.specs.Calls.{read_call, carry_out}
use Rattle.image.specs.Chip.{spare_only}
use Rattle.state.specs.declared.State.{State as Struct}
use Rattle.state.specs.View.{places_of}
use Rattle.copying.specs.Fresh.{Single}
use Rattle.oldest.specs.Drops.{Drops}
use Rattle.outcome.specs.Handed.{Handed, handed}

-- n bytes of the back-end bucket b, from an offset on, on a chip made by the page rules
pub record Reads (s : State) (b off n : ℕ) (spare : List ℕ) : Type 0 where
  pub drops : Drops s
  pub single : Single s
  pub body_formed : body_fits s.sizes (spare_only spare) ≡ true
  pub back : b < s.sizes.b
  pub range : off + n ≤ bucket_size s.sizes

-- what a read that makes a copy hands back of the struct s, lent this buffer
abbrev pub copy_handed : (allowance : ℕ) → Struct → (b off : ℕ) → (buffer : List ℕ) → Device → Handed
copy_handed n s b off buffer d =
    let v = places_of s in
    handed s (carry_out n (read_call b off buffer) v d (read_copy s.sizes b (merged s.sizes v d b) v d))

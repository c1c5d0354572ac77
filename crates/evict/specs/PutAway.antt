-- Evictions: when one can be made, and its first half.
use Rattle.std.specs.Prelude.{ℕ, ◌≤◌, ◌<◌, ◌≡◌, true, List, if◌then◌else◌}
use Rattle.model.specs.declared.Sizes.{Sizes}
use Rattle.model.specs.Spare.{dirty_kind}
use Rattle.model.specs.State.{State, holds}
use Rattle.model.specs.Steps.{Step, ◌then◌, move, drop_write, merged, copy, write_out}
use Rattle.steps.specs.Ready.{Ready}
use Rattle.copying.specs.Fresh.{Single}

-- the back-end bucket b of the disk has a Write bucket, no cache bucket stands twice in the queues, and the next epoch is one that spare bytes can say
pub record Evicts (s : State) (b : ℕ) : Type 0 where
  pub ready : Ready s
  pub single : Single s
  pub back : b < s.sizes.b
  pub held : holds b s.writes ≡ true
  pub epoch : s.next ≤ 4294967295

-- "With a read bucket: allocate, program all P pages as Dirty .. Without: write all P units in rising order"
unfoldable pub put_away : Sizes → ℕ → List ℕ → Step
put_away z b bytes s d = (if holds b s.reads then copy z dirty_kind b bytes else write_out z b bytes) s d

-- an eviction that does not find all logs in the read bucket
unfoldable pub put_out : Sizes → ℕ → Step
put_out z b s d = (put_away z b (merged z s d b) then move (drop_write b)) s d

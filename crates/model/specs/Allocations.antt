-- Allocate always finds a bucket: one claim about every allocation that a write or a read makes, whatever state, chip and disk it is given.
-- No other call allocates.
use Rattle.std.specs.Prelude.{ℕ, ◌+◌, ◌≡◌, Bool, true, not, List, [], ◌∷◌, ◌++◌, length, ltb, if◌then◌else◌, Option, Some, None}
use Rattle.lists.specs.Lists.{empty, all}
use Rattle.model.specs.Sizes.{Device, pages_for}
use Rattle.model.specs.State.{State, holds, is_marked}
use Rattle.model.specs.Steps.{Plan, Step, nothing, ◌then◌, make_room}
use Rattle.model.specs.Operations.{last_epoch, fits, outgoing, make_way, is_current, make_place}
use Rattle.model.specs.Calls.{read_call, write_call, refusal, plan_of}

-- ---- where a plan allocates: the steps from its start that an allocation follows

-- an eviction: for its copy, if there is a read bucket and not all logs are in it
unfoldable pub evict_allocations : Option ℕ → State → List Step
evict_allocations None s = []
evict_allocations (Some v) s = if is_marked v s.writes then [] else (if holds v s.reads then nothing ∷ [] else [])

-- a write: for its eviction, and behind that for its log, if the queued Write bucket has no room for it
unfoldable pub write_allocations : (b n : ℕ) → State → Device → List Step
write_allocations b n s d =
    if fits s.sizes d b (pages_for s.sizes n) s then []
    else evict_allocations (outgoing s.sizes d b s) s ++ (make_way s.sizes b ∷ [])

-- a read: for its copy, once there is a place for it in the read queue
unfoldable pub read_allocations : ℕ → State → Device → List Step
read_allocations b s d =
    if ltb last_epoch s.next then []
    else (if is_current b s then [] else make_place s.sizes b ∷ [])

-- ---- the claim

-- "if the free queue is empty, do the erase step first": then there is a free head to take
unfoldable pub finds_bucket : State → Device → Step → Bool
finds_bucket s d f = not (empty ((f then make_room s.sizes) s d).state.free)

-- each of them finds a bucket; and none is left out, since every allocation takes "the next epoch, which rises by 1"
pub record Allocates (s : State) (d : Device) (steps : List Step) (p : Plan) : Type 0 where
  pub finds : all (finds_bucket s d) steps ≡ true
  pub epochs : p.state.next ≡ s.next + length steps

pub record AllocatesAlways : Type 0 where
  pub writes : (b off : ℕ) (bytes : List ℕ) (s : State) (d : Device) → refusal (write_call b off bytes) s d ≡ 0
      → Allocates s d (write_allocations b (length bytes) s d) (plan_of (write_call b off bytes) s d)
  pub reads : (b off : ℕ) (buffer : List ℕ) (s : State) (d : Device) → refusal (read_call b off buffer) s d ≡ 0
      → Allocates s d (read_allocations b s d) (plan_of (read_call b off buffer) s d)

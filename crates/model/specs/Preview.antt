-- "What would this write do?": the preview of a write, and two claims about it, whatever state, chip and disk it is given.
use Rattle.std.specs.Prelude.{ℕ, ◌+◌, ◌-◌, ◌≤◌, ◌<◌, ◌≡◌, true, false, List, [], ◌∷◌, ◌++◌, map, length, drop, if◌then◌else◌, Option, Some, None}
use Rattle.lists.specs.Lists.{head}
use Rattle.model.specs.declared.Entry.{Entry}
use Rattle.model.specs.declared.Answer.TheVariants.{Cut, Refused}
use Rattle.model.specs.declared.Preview.{Preview}
use Rattle.model.specs.Sizes.{Device, pages_for}
use Rattle.model.specs.State.{State, holds, cache_of, without}
use Rattle.model.specs.Steps.{◌then◌, make_room}
use Rattle.model.specs.Operations.{fits, outgoing, make_way}
use Rattle.model.specs.Calls.{is_done, is_cut, write_call, refusal, plan_of, call}

-- "victim if any (the back-end bucket whose Write bucket it sends to GC, its own too)", of a write of n bytes to b
unfoldable pub victim_of : (b n : ℕ) → State → Device → Option ℕ
victim_of b n s d = if fits s.sizes d b (pages_for s.sizes n) s then None else outgoing s.sizes d b s

-- "A preview of a write gives its answer, store count, victim if any .. and next epoch, equal to running that write with a sufficient allowance": with
-- one of as many stores as it plans. It hands back nothing else, so "it alters none" of state, chip and disk.
unfoldable pub preview_of : (b off : ℕ) → List ℕ → State → Device → Preview
preview_of b off bytes s d =
    let k = write_call b off bytes in
    let o = call (length (plan_of k s d).stores) k s d in
    record {
      answer = o.answer;
      stores = o.stores;
      victim = if is_done o.answer then victim_of b (length bytes) s d else None;
      next = o.state.next;
    }

-- ---- it tells what the write does

-- of the write of some bytes, from some state, chip and disk
pub record Tells (b off : ℕ) (bytes : List ℕ) (s : State) (d : Device) : Type 0 where
  -- a sufficient allowance is any that is not below the store count
  pub suffices : (n : ℕ)
      → let p = preview_of b off bytes s d in
      let o = call n (write_call b off bytes) s d in
      p.stores ≤ n → (o.answer ≡ p.answer) × (o.stores ≡ p.stores) × (o.state.next ≡ p.next)
  pub falls_short : (n : ℕ) → n < (preview_of b off bytes s d).stores → (call n (write_call b off bytes) s d).answer ≡ Cut
  -- "It refuses just as the write does."
  pub refuses : (n r : ℕ) → (call n (write_call b off bytes) s d).answer ≡ Refused r
      → preview_of b off bytes s d ≡ record { answer = Refused r; stores = 0; victim = None; next = s.next }
  pub never_cut : is_cut (preview_of b off bytes s d).answer ≡ false

unfoldable pub PreviewTells : Type 0
PreviewTells = (b off : ℕ) (bytes : List ℕ) (s : State) (d : Device) → Tells b off bytes s d

-- ---- there is one victim at the most

-- which back-end bucket a record maps to which cache bucket
unfoldable pub mapping : Entry → ℕ × ℕ
mapping e = (e.back, e.cache)

-- the write queue without the victim's record
unfoldable pub less : Option ℕ → List Entry → List Entry
less None l = l
less (Some v) l = without v l

-- what the log's own bucket adds to the write queue, where one is taken
unfoldable pub arrival : (b n : ℕ) → State → Device → List (ℕ × ℕ)
arrival b n s d =
    if fits s.sizes d b (pages_for s.sizes n) s then []
    else (b, head ((make_way s.sizes b then make_room s.sizes) s d).state.free) ∷ []

pub record Leaves (b off : ℕ) (bytes : List ℕ) (s : State) (d : Device) : Type 0 where
  -- the write queue keeps all other records, in their order, and gets that of the log's bucket
  pub others_stay : map mapping (plan_of (write_call b off bytes) s d).state.writes
      ≡ map mapping (less (victim_of b (length bytes) s d) s.writes) ++ arrival b (length bytes) s d
  -- so at most one record leaves it
  pub at_most_one : length s.writes ≤ length (less (victim_of b (length bytes) s d) s.writes) + 1
  -- a victim has a Write bucket, and it is the last of the GC queue before the log's bucket is allocated
  pub sends : (v : ℕ)
      → let gc = (make_way s.sizes b s d).state.gc in
      victim_of b (length bytes) s d ≡ Some v → (holds v s.writes ≡ true) × (drop (length gc - 1) gc ≡ cache_of v s.writes ∷ [])

unfoldable pub OneLeaves : Type 0
OneLeaves = (b off : ℕ) (bytes : List ℕ) (s : State) (d : Device) → refusal (write_call b off bytes) s d ≡ 0 → Leaves b off bytes s d

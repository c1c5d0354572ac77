-- Blank pages kept in the record: two claims about every call, whatever state, chip and disk it is given.
use Rattle.std.specs.Prelude.{ℕ, ◌≡◌, Bool, true, false, List}
use Rattle.lists.specs.Lists.{all}
use Rattle.model.specs.declared.Answer.{Answer}
use Rattle.model.specs.declared.Answer.TheVariants.{Done, Idle, Cut, Refused}
use Rattle.model.specs.Sizes.{Device}
use Rattle.model.specs.Image.{blanks}
use Rattle.model.specs.State.{State, holds, cache_of, blank_of, count_agrees}
use Rattle.model.specs.Calls.{Call, write_call, refusal, call}

-- "answered Done or Idle"
unfoldable pub is_finished : Answer → Bool
is_finished Done = true
is_finished Idle = true
is_finished Cut = false
is_finished (Refused n) = false

-- "Every operation answered Done or Idle shall leave it equal to the count worked out afresh from the spare areas, recovery included."
unfoldable pub CountsTrue : Type 0
CountsTrue = (n : ℕ) (k : Call) (s : State) (d : Device)
    → let o = call n k s d in
    is_finished o.answer ≡ true → all (count_agrees o.state.sizes o.device) o.state.writes ≡ true

-- "Other answers, and stores, do not change": a plan speaks of the blank pages of a bucket, as it did. A write that is not turned down goes by the
-- kept count all the same, since the pages by which `fits` judges and `append_log` finds its first one are that many
unfoldable pub CountDecides : Type 0
CountDecides = (b off : ℕ) (bytes : List ℕ) (s : State) (d : Device) → refusal (write_call b off bytes) s d ≡ 0 → holds b s.writes ≡ true
    → blanks s.sizes d (cache_of b s.writes) ≡ blank_of b s.writes

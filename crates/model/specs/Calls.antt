-- Calls: what each is turned down for, and what each gives under an allowance of stores.
use Rattle.std.specs.Prelude.{ℕ, ◌+◌, ◌*◌, Bool, true, false, ◌&&◌, List, [], ◌∷◌, ◌++◌, length, take, leb, ltb, eqb, if◌then◌else◌}
use Rattle.lists.specs.Lists.{empty, part}
use Rattle.model.specs.declared.Sizes.{Sizes}
use Rattle.model.specs.declared.Answer.{Answer}
use Rattle.model.specs.declared.Answer.TheVariants.{Done, Idle, Cut, Refused}
use Rattle.model.specs.Tests.{Test, first_failed}
use Rattle.model.specs.Sizes.{Device, limits, lengths, bucket_size, flash_size, page_index}
use Rattle.model.specs.Stores.{apply_all}
use Rattle.model.specs.Ledger.{well_formed, recoverable}
use Rattle.model.specs.State.{State, stopped, state_fits}
use Rattle.model.specs.Steps.{Plan, erase_step, merged}
use Rattle.model.specs.Operations.{last_epoch, write, read, drain, format}
use Rattle.model.specs.Recover.{recover}

-- "00 Done, 10 Idle, 11 Cut, else the number"
unfoldable pub answer_byte : Answer → ℕ
answer_byte Done = 0x00
answer_byte Idle = 0x10
answer_byte Cut = 0x11
answer_byte (Refused n) = n

unfoldable pub is_done : Answer → Bool
is_done Done = true
is_done Idle = false
is_done Cut = false
is_done (Refused n) = false

unfoldable pub is_cut : Answer → Bool
is_cut Done = false
is_cut Idle = false
is_cut Cut = true
is_cut (Refused n) = false

-- "A read's length is that of its lent buffer, a write's that of its data."
pub data Call : Type 0 where
  format_call : Sizes → Call
  read_call : (b off : ℕ) (buffer : List ℕ) → Call
  write_call : (b off : ℕ) (bytes : List ℕ) → Call
  erase_call drain_call : Call
  recover_call : Sizes → Call

-- what a call hands back
pub record Outcome : Type 0 where
  pub answer : Answer
  pub stores : ℕ
  pub state : State
  pub device : Device
  pub buffer : List ℕ

-- ---- where a call is turned down

-- "every entry: sizes", "buffers"
unfoldable pub lent_tests : Sizes → Device → List Test
lent_tests z d = (1, limits z) ∷ (2, lengths z d) ∷ []

-- "read, write, erase step, drain: not running; image not well formed; state"
unfoldable pub running_tests : State → Device → List Test
running_tests s d = lent_tests s.sizes d ++ ((3, s.running) ∷ (4, well_formed s.sizes d) ∷ (5, state_fits s d) ∷ [])

-- "offset + length > P × S", length 0
unfoldable pub range_fits : Sizes → (off len : ℕ) → Bool
range_fits z off len = leb 1 len && leb (off + len) (bucket_size z)

-- "no such back-end bucket"; "length 0 or offset + length > P × S"
unfoldable pub place_tests : Sizes → (b off len : ℕ) → List Test
place_tests z b off len = (6, ltb b z.b) ∷ (7, range_fits z off len) ∷ []

unfoldable pub tests : Call → State → Device → List Test
tests (format_call z) s d = lent_tests z d
tests (read_call b off buffer) s d = running_tests s d ++ place_tests s.sizes b off (length buffer)
tests (write_call b off bytes) s d = running_tests s d ++ (place_tests s.sizes b off (length bytes) ++ ((8, leb s.next last_epoch) ∷ []))
tests erase_call s d = running_tests s d
tests drain_call s d = running_tests s d
tests (recover_call z) s d = lent_tests z d ++ ((4, recoverable z d) ∷ [])

unfoldable pub refusal : Call → State → Device → ℕ
refusal k s d = first_failed (tests k s d)

-- ---- what a call gives

-- the sizes at which a call's stores are made
unfoldable pub sizes_of : Call → State → Sizes
sizes_of (format_call z) s = z
sizes_of (read_call b off buffer) s = s.sizes
sizes_of (write_call b off bytes) s = s.sizes
sizes_of erase_call s = s.sizes
sizes_of drain_call s = s.sizes
sizes_of (recover_call z) s = z

unfoldable pub plan_of : Call → State → Device → Plan
plan_of (format_call z) s d = format z
plan_of (read_call b off buffer) s d = read s.sizes b s d
plan_of (write_call b off bytes) s d = write s.sizes b off bytes s d
plan_of erase_call s d = erase_step s.sizes s d
plan_of drain_call s d = drain s.sizes s d
plan_of (recover_call z) s d = recover z d

-- "Idle, with no store, if and only if the GC queue is empty"
unfoldable pub done_answer : Call → State → Answer
done_answer (format_call z) s = Done
done_answer (read_call b off buffer) s = Done
done_answer (write_call b off bytes) s = Done
done_answer erase_call s = if empty s.gc then Idle else Done
done_answer drain_call s = Done
done_answer (recover_call z) s = Done

-- the read buffer as it was lent, and as a Done read leaves it
unfoldable pub lent_buffer : Call → List ℕ
lent_buffer (format_call z) = []
lent_buffer (read_call b off buffer) = buffer
lent_buffer (write_call b off bytes) = []
lent_buffer erase_call = []
lent_buffer drain_call = []
lent_buffer (recover_call z) = []

unfoldable pub read_buffer : Call → State → Device → List ℕ
read_buffer (format_call z) s d = []
read_buffer (read_call b off buffer) s d = part (merged s.sizes s d b) off (length buffer)
read_buffer (write_call b off bytes) s d = []
read_buffer erase_call s d = []
read_buffer drain_call s d = []
read_buffer (recover_call z) s d = []

-- "If it needs more, exactly the allowed first ones are made, the answer is Cut, a read's buffer is untouched, and the state returns unchanged but
-- not running. Otherwise it is Done (or Idle) with the stores made."
unfoldable pub carry_out : ℕ → Call → State → Device → Plan → Outcome
carry_out n k s d p =
    if ltb n (length p.stores)
    then record { answer = Cut; stores = n; state = stopped s; device = apply_all (sizes_of k s) d (take n p.stores); buffer = lent_buffer k }
    else record { answer = done_answer k s; stores = length p.stores; state = p.state; device = apply_all (sizes_of k s) d p.stores; buffer = read_buffer k s d }

-- "A refusal makes no store and leaves the state and every buffer as they were."
unfoldable pub turned_down : ℕ → Call → State → Device → Outcome
turned_down r k s d = record { answer = Refused r; stores = 0; state = s; device = d; buffer = lent_buffer k }

-- a call that fails the test of number r, or none with 0, and whose plan is p
abbrev pub decide : ℕ → Call → State → Device → (r : ℕ) → Plan → Outcome
decide n k s d r p = if eqb r 0 then carry_out n k s d p else turned_down r k s d

-- a call with an allowance of n stores
unfoldable pub call : ℕ → Call → State → Device → Outcome
call n k s d = decide n k s d (refusal k s d) (plan_of k s d)

-- ---- page look: "the page's own S bytes in the lent flash, or an empty part with a refusal"

module _ (z : Sizes) (flash : List ℕ) (c k : ℕ) where
  unfoldable pub look_tests : List Test
  look_tests = (1, limits z) ∷ (2, eqb (length flash) (flash_size z)) ∷ (6, ltb c z.c && ltb k z.p) ∷ []

  unfoldable pub look_answer : Answer
  look_answer = if eqb (first_failed look_tests) 0 then Done else Refused (first_failed look_tests)

  unfoldable pub look_bytes : List ℕ
  look_bytes = if eqb (first_failed look_tests) 0 then part flash (page_index z c k * z.s) z.s else []

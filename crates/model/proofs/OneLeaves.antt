-- A write has one victim at the most.
use Prim.Native.Nat.{ℕ, ◌+◌, ◌-◌, ◌≤◌}
use mathlib.Core.Path.{◌≡◌, refl, sym, ap, ◌∙◌}
use mathlib.Core.Logic.{◌⊎◌, inl, inr}
use mathlib.Core.Bool.{Bool, true, false}
use mathlib.Core.List.{List, [], ◌∷◌, ◌++◌, map, append-nil}
use native.Mathlib.Omega.{arith}
use lib.ListN.{length, drop, length-append}
use lib.Seq.{drop_at}
use lib.Dec.{leb, eqb}
use borrow.Author.Tests.{eqb-true}
use Rattle.std.specs.Prelude.{if◌then◌else◌, Option, Some, None}
use Rattle.lists.specs.Lists.{head}
use Rattle.lists.proofs.Tests.{true_or_false, every_at}
use Rattle.lists.proofs.Rows.{map_append}
use Rattle.model.specs.declared.Sizes.{Sizes}
use Rattle.model.specs.declared.Entry.{Entry}
use Rattle.model.specs.Sizes.{Device, pages_for}
use Rattle.model.specs.Stores.{apply_all}
use Rattle.model.specs.Spare.{dirty_kind}
use Rattle.model.specs.State.{State, moved, entry, with_priority, is_of, holds, cache_of, is_marked, without, state_fits}
use Rattle.model.specs.Steps.{nothing, ◌then◌, move, make_room, taken, drop_write, merged, write_out, evict}
use Rattle.model.specs.Operations.{halved, prioritised, recorded, counted, accept, take_write, fits, outgoing, evict_any, make_way, append_log, start_log, write}
use Rattle.model.specs.Calls.{plan_of}
use Rattle.model.specs.Preview.{victim_of, mapping, less, arrival, OneLeaves}
use Rattle.model.proofs.Queues.{caches_of_one, length-distinct}
use Rattle.model.proofs.Calling.{Passed}
use Rattle.model.proofs.Tested.{bounds}
use Rattle.model.proofs.Steps.{room_there}
use Rattle.model.proofs.Write.{outgoing_held, write_passed}
use Rattle.model.proofs.ProgramsRise.{copy_writes, some, way_opens}

-- ---- an accepted write leaves every mapping

map_kept : (f : Entry → Entry) → ((e : Entry) → mapping (f e) ≡ mapping e) → (l : List Entry) → map mapping (map f l) ≡ map mapping l
map_kept f h [] = refl
map_kept f h (e ∷ l) = rw (h e, map_kept f h l)

prioritised_kept : (b n : ℕ) (e : Entry) → mapping (prioritised b n e) ≡ mapping e
unfolding mapping prioritised is_of entry
prioritised_kept b n e = go (true_or_false (eqb e.back b))
  where
    go : (eqb e.back b ≡ true) ⊎ (eqb e.back b ≡ false) → mapping (prioritised b n e) ≡ mapping e
    go (inl q) = rw (q, eqb-true e.back b q)
    go (inr q) = rw q

halved_kept : (e : Entry) → mapping (halved e) ≡ mapping e
unfolding mapping halved with_priority
halved_kept e = refl

accept_kept : (b n : ℕ) (s : State) → map mapping (accept b n s).writes ≡ map mapping s.writes
unfolding accept counted recorded moved
accept_kept b n s = go (leb 15 s.accepted)
  where
    set : map mapping (map (prioritised b n) s.writes) ≡ map mapping s.writes
    set = map_kept (prioritised b n) (prioritised_kept b n) s.writes

    go : (t : Bool) → map mapping (if t then map halved (map (prioritised b n) s.writes) else map (prioritised b n) s.writes) ≡ map mapping s.writes
    go true = map_kept halved halved_kept (map (prioritised b n) s.writes) ∙ set
    go false = set

-- the log in a bucket just taken
start_kept : (z : Sizes) (b off : ℕ) (bytes : List ℕ) (s : State) (d : Device) → map mapping (start_log z b off bytes s d).state.writes ≡ map mapping s.writes ++ ((b, head s.free) ∷ [])
unfolding start_log take_write taken moved mapping entry
start_kept z b off bytes s d = accept_kept b _ _ ∙ map_append mapping s.writes (entry b (head s.free) 0 ∷ [])

-- ---- an eviction

-- the last of a queue that grew by one
last_of : (l : List ℕ) (c : ℕ) → drop (length (l ++ (c ∷ [])) - 1) (l ++ (c ∷ [])) ≡ c ∷ []
last_of l c = drop_at l (c ∷ []) (length (l ++ (c ∷ [])) - 1) (omega (arith, length-append l (c ∷ [])))

module _ (s : State) (d : Device) (pass : Passed s d) where
  abbrev z : Sizes
  z = s.sizes

  -- v's record leaves, and its Write bucket is the last of the GC queue
  record Sent (v : ℕ) (t : State) : Type 0 where
    left : t.writes ≡ without v s.writes
    sent : holds v s.writes ≡ true → drop (length t.gc - 1) t.gc ≡ cache_of v s.writes ∷ []

  dropped : (v : ℕ) (t : State) → t.writes ≡ s.writes → Sent v (drop_write v t)
  unfolding drop_write moved
  dropped v t e = record {
    left = ap (without v) e;
    sent = λ h. rw (e, caches_of_one s.writes v (cache_of v s.writes) (record { held = h; is = refl })) (last_of t.gc (cache_of v s.writes));
  }

  evict_sends : (v : ℕ) → Sent v (evict s.sizes v s d).state
  unfolding evict ◌then◌ move nothing write_out
  evict_sends v = go (true_or_false (is_marked v s.writes)) (true_or_false (holds v s.reads))
    where
      go : (is_marked v s.writes ≡ true) ⊎ (is_marked v s.writes ≡ false) → (holds v s.reads ≡ true) ⊎ (holds v s.reads ≡ false) → Sent v (evict z v s d).state
      go (inl m) r = rw m (dropped v s refl)
      go (inr m) (inl r) = rw (m, r) (dropped v _ (copy_writes z dirty_kind v (merged z s d v) s d (some s d pass)))
      go (inr m) (inr r) = rw (m, r) (dropped v s refl)

  way_left : (o : Option ℕ) → (evict_any s.sizes o s d).state.writes ≡ less o s.writes
  unfolding evict_any nothing less
  way_left None = refl
  way_left (Some v) = (evict_sends v).left

  -- ---- the write

  module _ (b off : ℕ) (bytes : List ℕ) where
    stay : map mapping (write s.sizes b off bytes s d).state.writes ≡ map mapping (less (victim_of b (length bytes) s d) s.writes) ++ arrival b (length bytes) s d
    unfolding write victim_of arrival ◌then◌ make_way less append_log
    stay = go (true_or_false (fits z d b (pages_for z (length bytes)) s))
      where
        t : State
        t = (make_way z b s d).state

        e : Device
        e = apply_all z d (make_way z b s d).stores

        go : (fits z d b (pages_for z (length bytes)) s ≡ true) ⊎ (fits z d b (pages_for z (length bytes)) s ≡ false)
            → map mapping (write z b off bytes s d).state.writes ≡ map mapping (less (victim_of b (length bytes) s d) s.writes) ++ arrival b (length bytes) s d
        go (inl q) = rw q (accept_kept b _ s ∙ sym (append-nil (map mapping s.writes)))
        go (inr q) = rw q
            (start_kept z b off bytes (make_room z t e).state _
            ∙ ap (λ (l : List Entry). map mapping l ++ ((b, head (make_room z t e).state.free) ∷ [])) ((room_there z t e (way_opens s d pass b).some_there).writes_same ∙ way_left (outgoing z d b s)))

    one : (o : Option ℕ) → length s.writes ≤ length (less o s.writes) + 1
    unfolding less state_fits
    one None = omega arith
    one (Some v) = length-distinct s.writes v (every_at _ pass.state_fits_lem 4)

    sends : (v : ℕ) → victim_of b (length bytes) s d ≡ Some v
        → (holds v s.writes ≡ true) × (drop (length (make_way s.sizes b s d).state.gc - 1) (make_way s.sizes b s d).state.gc ≡ cache_of v s.writes ∷ [])
    unfolding victim_of make_way evict_any
    sends v = go (true_or_false (fits z d b (pages_for z (length bytes)) s))
      where
        go : (fits z d b (pages_for z (length bytes)) s ≡ true) ⊎ (fits z d b (pages_for z (length bytes)) s ≡ false) → victim_of b (length bytes) s d ≡ Some v
            → (holds v s.writes ≡ true) × (drop (length (make_way z b s d).state.gc - 1) (make_way z b s d).state.gc ≡ cache_of v s.writes ∷ [])
        go (inl q) e = let is : None ≡ Some v = rw q at e in let never : ◌≡◌ {A = ℕ} 0 1 = cc in absurd (omega arith)
        go (inr q) e =
            let out : outgoing z d b s ≡ Some v = rw q at e in
            let held = outgoing_held z d b v s (bounds s d pass).w_low out in
            rw out (held, (evict_sends v).sent held)

pub one_leaves : OneLeaves
unfolding OneLeaves plan_of
one_leaves b off bytes s d r =
    let pass = (write_passed s d b off bytes r).0 in
    record { others_stay = stay s d pass b off bytes; at_most_one = one s d pass b off bytes (victim_of b (length bytes) s d); sends = sends s d pass b off bytes }

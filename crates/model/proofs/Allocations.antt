-- Every allocation of a write or a read finds a bucket.
use Prim.Native.Nat.{ℕ, ◌+◌}
use mathlib.Core.Path.{◌≡◌, refl, ap, ◌∙◌}
use mathlib.Core.Logic.{◌⊎◌, inl, inr}
use mathlib.Core.Bool.{true, false, not}
use mathlib.Core.List.{List, [], ◌∷◌}
use native.Mathlib.Omega.{arith}
use lib.ListN.{length, length-append}
use lib.Dec.{ltb}
use Rattle.lists.specs.Lists.{empty, all}
use Rattle.lists.proofs.Tests.{true_or_false, and-true}
use Rattle.lists.proofs.Arrays.{all_append}
use Rattle.model.specs.declared.Sizes.{Sizes}
use Rattle.std.specs.Prelude.{Option, Some, None}
use Rattle.model.specs.Sizes.{Device, pages_for}
use Rattle.model.specs.Stores.{apply_all}
use Rattle.model.specs.Spare.{dirty_kind}
use Rattle.model.specs.State.{State, moved, holds, is_marked}
use Rattle.model.specs.Steps.{Step, nothing, ◌then◌, move, taken, drop_write, take_copy, merged, fill_copy, copy, write_out, evict}
use Rattle.model.specs.Operations.{last_epoch, counted, recorded, accept, take_write, fits, outgoing, evict_any, make_way, append_log, start_log, write, touch, without_oldest, drop_oldest, read, is_current, set_mark, make_place, read_copy}
use Rattle.model.specs.Calls.{plan_of}
use Rattle.model.specs.Allocations.{evict_allocations, write_allocations, read_allocations, finds_bucket, Allocates, AllocatesAlways}
use Rattle.model.proofs.Steps.{room_there}
use Rattle.model.proofs.Calling.{Passed, read_passed}
use Rattle.model.proofs.Write.{write_passed}
use Rattle.model.proofs.ProgramsRise.{some, place_rises, way_opens}

-- ---- epochs

copy_next : (z : Sizes) (k b : ℕ) (bytes : List ℕ) (s : State) (d : Device) → (empty s.free ≡ false) ⊎ (empty s.gc ≡ false) → (copy z k b bytes s d).state.next ≡ s.next + 1
unfolding copy fill_copy ◌then◌ take_copy taken moved
copy_next z k b bytes s d left = ap (λ (n : ℕ). n + 1) (room_there z s d left).next_same

oldest_next : (z : Sizes) (s : State) (d : Device) → (drop_oldest z s d).state.next ≡ s.next
unfolding drop_oldest nothing without_oldest moved
oldest_next z s d = go (true_or_false (ltb (length s.reads) z.r))
  where
    go : (ltb (length s.reads) z.r ≡ true) ⊎ (ltb (length s.reads) z.r ≡ false) → (drop_oldest z s d).state.next ≡ s.next
    go (inl f) = rw f
    go (inr f) = rw f

-- ---- a call that passed its tests

module _ (s : State) (d : Device) (pass : Passed s d) where
  abbrev z : Sizes
  z = s.sizes

  -- a step that leaves a bucket free, or one that may be erased
  finds_after : (f : Step) → (empty (f s d).state.free ≡ false) ⊎ (empty (f s d).state.gc ≡ false) → finds_bucket s d f ≡ true
  unfolding finds_bucket ◌then◌
  finds_after f h = ap not (room_there z (f s d).state (apply_all z d (f s d).stores) h).has_free

  finds_at_once : finds_bucket s d nothing ≡ true
  unfolding nothing
  finds_at_once = finds_after nothing (some s d pass)

  -- ---- a write

  evict_finds : (v : Option ℕ) → all (finds_bucket s d) (evict_allocations v s) ≡ true
  unfolding evict_allocations all
  evict_finds None = refl
  evict_finds (Some v) = go (true_or_false (is_marked v s.writes)) (true_or_false (holds v s.reads))
    where
      go : (is_marked v s.writes ≡ true) ⊎ (is_marked v s.writes ≡ false) → (holds v s.reads ≡ true) ⊎ (holds v s.reads ≡ false)
          → all (finds_bucket s d) (evict_allocations (Some v) s) ≡ true
      go (inl m) h = rw m
      go (inr m) (inl h) = rw (m, h) (and-true finds_at_once refl)
      go (inr m) (inr h) = rw (m, h)

  evict_next : (v : Option ℕ) → (evict_any s.sizes v s d).state.next ≡ s.next + length (evict_allocations v s)
  unfolding evict_allocations evict_any nothing evict ◌then◌ move drop_write write_out moved
  evict_next None = omega arith
  evict_next (Some v) = go (true_or_false (is_marked v s.writes)) (true_or_false (holds v s.reads))
    where
      go : (is_marked v s.writes ≡ true) ⊎ (is_marked v s.writes ≡ false) → (holds v s.reads ≡ true) ⊎ (holds v s.reads ≡ false)
          → (evict_any z (Some v) s d).state.next ≡ s.next + length (evict_allocations (Some v) s)
      go (inl m) h = rw m (omega arith)
      go (inr m) (inl h) = rw (m, h) (copy_next z dirty_kind v (merged z s d v) s d (some s d pass))
      go (inr m) (inr h) = rw (m, h) (omega arith)

  write_allocates : (b off : ℕ) (bytes : List ℕ) → Allocates s d (write_allocations b (length bytes) s d) (write s.sizes b off bytes s d)
  unfolding write_allocations write make_way ◌then◌ append_log start_log accept counted recorded take_write taken moved all
  write_allocates b off bytes = go (true_or_false (fits z d b (pages_for z (length bytes)) s))
    where
      go : (fits z d b (pages_for z (length bytes)) s ≡ true) ⊎ (fits z d b (pages_for z (length bytes)) s ≡ false)
          → Allocates s d (write_allocations b (length bytes) s d) (write z b off bytes s d)
      go (inl q) = rw q (record { finds = refl; epochs = omega arith })
      go (inr q) =
          let v = outgoing z d b s in
          let t = (make_way z b s d).state in
          let e = apply_all z d (make_way z b s d).stores in
          let left = (way_opens s d pass b).some_there in
          rw q (record {
            finds = all_append (finds_bucket s d) (evict_allocations v s) (make_way z b ∷ []) ∙ and-true (evict_finds v) (and-true (finds_after (make_way z b) left) refl);
            epochs = omega (arith, (room_there z t e left).next_same, evict_next v, length-append (evict_allocations v s) (make_way z b ∷ []));
          })

  -- ---- a read

  place_next : (b : ℕ) → (make_place s.sizes b s d).state.next ≡ s.next
  unfolding make_place nothing
  place_next b = go (true_or_false (holds b s.reads))
    where
      go : (holds b s.reads ≡ true) ⊎ (holds b s.reads ≡ false) → (make_place z b s d).state.next ≡ s.next
      go (inl r) = rw r
      go (inr r) = rw r (oldest_next z s d)

  copy-read_allocates : (b : ℕ) → Allocates s d (make_place s.sizes b ∷ []) (read_copy s.sizes b (merged s.sizes s d b) s d)
  unfolding read_copy ◌then◌ move nothing set_mark moved all
  copy-read_allocates b =
      let left = (place_rises s d pass b).1 in
      record {
        finds = and-true (finds_after (make_place z b) left) refl;
        epochs = copy_next z _ b (merged z s d b) (make_place z b s d).state _ left ∙ ap (λ (n : ℕ). n + 1) (place_next b);
      }

  read_allocates : (b : ℕ) → Allocates s d (read_allocations b s d) (read s.sizes b s d)
  unfolding read_allocations read nothing move touch moved all
  read_allocates b = go (true_or_false (ltb last_epoch s.next)) (true_or_false (is_current b s))
    where
      go : (ltb last_epoch s.next ≡ true) ⊎ (ltb last_epoch s.next ≡ false) → (is_current b s ≡ true) ⊎ (is_current b s ≡ false) → Allocates s d (read_allocations b s d) (read z b s d)
      go (inl e) c = rw e (record { finds = refl; epochs = omega arith })
      go (inr e) (inl c) = rw (e, c) (record { finds = refl; epochs = omega arith })
      go (inr e) (inr c) = rw (e, c) (copy-read_allocates b)

pub allocates_always : AllocatesAlways
unfolding plan_of
allocates_always = record {
  writes = λ b off bytes s d r. write_allocates s d (write_passed s d b off bytes r).0 b off bytes;
  reads = λ b off buffer s d r. read_allocates s d (read_passed s d b off buffer r).0 b;
}

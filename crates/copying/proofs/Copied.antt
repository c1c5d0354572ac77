-- What a log in a bucket just allocated leaves, and the copy made of it.
use Prim.Native.Nat.{ℕ, ◌<◌}
use mathlib.Core.Path.{◌≡◌, refl, sym, ◌∙◌}
use mathlib.Core.Bool.{true, false, true≢false}
use mathlib.Core.Logic.{◌⊎◌, inl, inr}
use mathlib.Core.List.{List, [], ◌∷◌}
use native.Mathlib.Omega.{arith}
use lib.ListN.{length}
use Rattle.lists.specs.Lists.{empty, head}
use Rattle.lists.proofs.Tests.{true_or_false}
use Rattle.model.specs.declared.Sizes.{Sizes}
use Rattle.model.specs.Sizes.{Device, body}
use Rattle.model.specs.State.{State, moved, entry, cache_of, without}
use Rattle.model.specs.Steps.{◌then◌, nothing, freed, erase_step, make_room, taken, take_copy, log_stores, fill_copy, copy}
use Rattle.model.proofs.Queues.{absent_without}
use Rattle.model.proofs.QueuesGrown.{maps_newest}
use Rattle.meter.specs.Run.{Run, run_all}
use Rattle.steps.specs.Turns.{after}
use Rattle.steps.specs.Ready.{Orderly, Ready}
use Rattle.steps.proofs.Kept.{Roomed, roomed, free_head, copied_orderly}
use Rattle.steps.proofs.Turns.{Steady, then_steady, room_steady}
use Rattle.copying.specs.Fresh.{room_of, erases, fresh_stores, Takes, Fresh, Copies}

no_entry_lem : (l : List ℕ) → empty l ≡ true → l ≡ []
unfolding empty
no_entry_lem [] h = refl
no_entry_lem (x ∷ l) h = absurd (true≢false (sym h))

module _ (z : Sizes) (s : State) (d : Device) where
  -- the room is the one that make_room plans
  room_erases : (make_room z s d).stores ≡ erases z d (room_of s)
  unfolding make_room erase_step nothing erases room_of
  room_erases = go (true_or_false (empty s.free)) (true_or_false (empty s.gc))
    where
      go : (empty s.free ≡ true) ⊎ (empty s.free ≡ false) → (empty s.gc ≡ true) ⊎ (empty s.gc ≡ false) → (make_room z s d).stores ≡ erases z d (room_of s)
      go (inr e) g = rw e
      go (inl e) (inl g) = rw (e, g)
      go (inl e) (inr g) = rw (e, g)

  room_bucket : head (make_room z s d).state.free ≡ (room_of s).bucket
  unfolding make_room erase_step nothing freed moved room_of head
  room_bucket = go (true_or_false (empty s.free)) (true_or_false (empty s.gc))
    where
      go : (empty s.free ≡ true) ⊎ (empty s.free ≡ false) → (empty s.gc ≡ true) ⊎ (empty s.gc ≡ false) → head (make_room z s d).state.free ≡ (room_of s).bucket
      go (inr e) g = rw e
      go (inl e) (inl g) = rw (e, g, no_entry_lem s.free e, no_entry_lem s.gc g)
      go (inl e) (inr g) = rw (e, g, no_entry_lem s.free e)

  pub room_inside : Ready s → (room_of s).bucket < body s.sizes
  room_inside ready = rw room_bucket at (free_head (roomed s ready z d))

  pub takes : {n : ℕ} → Fresh s n → Takes s.sizes (room_of s) n
  takes f = record {
    limits = f.ready.orderly.limits;
    bucket = room_inside f.ready;
    some = f.some;
    most = f.room;
  }

  -- and the copy's read bucket
  pub copied_cache : (b : ℕ) → cache_of b (take_copy b (make_room z s d).state).reads ≡ (room_of s).bucket
  unfolding take_copy taken moved entry
  copied_cache b =
      let t = (make_room z s d).state in
      (maps_newest (entry b (head t.free) 0) (without b t.reads) (absent_without t.reads b)).is ∙ room_bucket

-- the state moves by m once the log is in its room
pub fresh_by : (z : Sizes) (s : State) (r : Run) (m : State → State) → Ready s → (k b off : ℕ) (bytes : List ℕ) {run : Run} {t : State}
    → run ≡ run_all z (fresh_stores z r.device (room_of s) k b off bytes) r → t ≡ (make_room z s r.device).state
    → record { run = run; state = m t }
    ≡ after z (make_room z then (λ t d. record { stores = log_stores z (head t.free) 0 k t.next b off bytes; state = m t })) s r
unfolding after ◌then◌ fresh_stores room_of
fresh_by z s r m ready k b off bytes e h =
    rw (e, h, room_erases z s r.device, room_bucket z s r.device, (roomed s ready z r.device).next)

pub copied_by : (z : Sizes) (s : State) (r : Run) → Ready s → (k b : ℕ) (bytes : List ℕ) {run : Run} {t : State}
    → run ≡ run_all z (fresh_stores z r.device (room_of s) k b 0 bytes) r → t ≡ (make_room z s r.device).state
    → record { run = run; state = take_copy b t } ≡ after z (copy z k b bytes) s r
unfolding copy fill_copy
copied_by z s r ready k b bytes = fresh_by z s r (take_copy b) ready k b 0 bytes

-- the state that a copy leaves goes by the state alone
pub copy_steady : (z : Sizes) (k b : ℕ) (bytes : List ℕ) → Steady (copy z k b bytes)
unfolding copy fill_copy
copy_steady z k b bytes = then_steady (make_room z) (fill_copy z k b bytes) (room_steady z) (λ t d e. refl)

pub copied_left : {s t : State} {b : ℕ} → Copies s b → Roomed s t → Orderly (take_copy b t)
copied_left {s} {t} {b} c r =
    let place : length (without b t.reads) < 64 = rw r.reads c.place in
    copied_orderly b t r.orderly r.some place (omega (arith, r.next, c.epoch))

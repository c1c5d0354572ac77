-- The state that an eviction leaves: another step may follow.
use Prim.Native.Nat.{ℕ, ◌+◌, ◌≤◌, ◌<◌}
use mathlib.Core.Path.{◌≡◌, refl, sym, ap, ◌∙◌}
use mathlib.Core.Bool.{true, false}
use mathlib.Core.Logic.{◌⊎◌, inl, inr}
use mathlib.Core.List.{List}
use native.Mathlib.Omega.{arith}
use lib.ListN.{length}
use Rattle.lists.proofs.Tests.{true_or_false}
use Rattle.model.specs.declared.Sizes.{Sizes}
use Rattle.model.specs.declared.Entry.{Entry}
use Rattle.model.specs.Sizes.{Device}
use Rattle.model.specs.State.{State, moved, holds, caches_of, without, is_marked}
use Rattle.model.specs.Steps.{◌then◌, move, nothing, make_room, taken, take_copy, drop_write, copy, merged, evict, fill_copy, write_out}
use Rattle.queue.proofs.Without.{without-length}
use Rattle.meter.specs.Run.{Run, run_all}
use Rattle.steps.specs.Turns.{Progress, after}
use Rattle.steps.specs.Ready.{Orderly, Ready}
use Rattle.steps.proofs.Kept.{roomed, copied_orderly, dropped_orderly, dropped_ready}
use Rattle.steps.proofs.Turns.{after_then}
use Rattle.copying.specs.Fresh.{Copies}
use Rattle.evict.specs.PutAway.{Evicts, put_away, put_out}

-- a queue that holds b is longer than what is left of it
fewer : (b : ℕ) (l : List Entry) → holds b l ≡ true → length (without b l) < length l
unfolding caches_of
fewer b l h = omega (arith, rw h at (without-length b l))

-- the read bucket gives up its place to the copy
pub copies : {s : State} {b : ℕ} → Evicts s b → holds b s.reads ≡ true → Copies s b
copies {s} {b} e h = record {
  ready = e.ready;
  place = omega (arith, fewer b s.reads h, e.ready.orderly.bounded.reads);
  epoch = e.epoch;
}

-- the bytes are put away, the Write bucket is still there
pub record Away (s t : State) : Type 0 where
  pub orderly : Orderly t
  pub sizes : t.sizes ≡ s.sizes
  pub writes : t.writes ≡ s.writes
  pub next : t.next ≤ s.next + 1

pub record Evicted (s t : State) : Type 0 where
  pub ready : Ready t
  pub sizes : t.sizes ≡ s.sizes
  pub writes : length t.writes < length s.writes
  pub next : t.next ≤ s.next + 1

module _ (s : State) (b : ℕ) (e : Evicts s b) where
  stays : Away s s
  stays = record { orderly = e.ready.orderly; sizes = refl; writes = refl; next = omega arith }

  copied_away : (z : Sizes) (d : Device) → holds b s.reads ≡ true → Away s (take_copy b (make_room z s d).state)
  unfolding take_copy taken moved
  copied_away z d h =
      let r = roomed s e.ready z d in
      let place : length (without b (make_room z s d).state.reads) < 64 = rw r.reads (omega (arith, fewer b s.reads h, e.ready.orderly.bounded.reads)) in
      let orderly = copied_orderly b (make_room z s d).state r.orderly r.some place (omega (arith, r.next, e.epoch)) in
      record { orderly = orderly; sizes = r.sizes; writes = r.writes; next = omega (arith, r.next) }

  pub away : (z : Sizes) (bytes : List ℕ) (d : Device) → Away s (put_away z b bytes s d).state
  unfolding put_away copy fill_copy write_out ◌then◌
  away z bytes d = go (true_or_false (holds b s.reads))
    where
      go : (holds b s.reads ≡ true) ⊎ (holds b s.reads ≡ false) → Away s (put_away z b bytes s d).state
      go (inl h) = rw h (copied_away z d h)
      go (inr h) = rw h stays

  -- from the run that put the bytes away
  module _ (z : Sizes) (r : Run) {p : Progress} (q : p ≡ after z (put_away z b (merged z s r.device b)) s r) where
    pub dropped_left : Orderly (drop_write b p.state)
    unfolding after
    dropped_left = dropped_orderly b p.state (rw (ap (λ (x : Progress). x.state) q) (away z (merged z s r.device b) r.device).orderly)

    pub put_out_by : s.sizes ≡ z → record { run = p.run; state = drop_write b p.state } ≡ after z (put_out z b) s r
    unfolding after put_out put_away move nothing run_all ◌then◌
    put_out_by sized =
        ap (λ (x : Progress). record { run = x.run; state = drop_write b x.state }) q
        ∙ sym (after_then z (put_away z b (merged z s r.device b)) (move (drop_write b)) (λ t d e. refl) s r sized)

  -- the logs are in the read bucket, or they are put out
  pub marked_evict : (z : Sizes) (r : Run) → is_marked b s.writes ≡ true → record { run = r; state = drop_write b s } ≡ after z (evict z b) s r
  unfolding after evict ◌then◌ move nothing run_all
  marked_evict z r m = rw m

  pub unmarked_evict : (z : Sizes) (r : Run) → is_marked b s.writes ≡ false → after z (put_out z b) s r ≡ after z (evict z b) s r
  unfolding after evict put_out put_away ◌then◌
  unmarked_evict z r m = rw m

  dropped : {t : State} → Away s t → Evicted s (drop_write b t)
  unfolding drop_write moved
  dropped {t} a =
      let h : holds b t.writes ≡ true = ap (holds b) a.writes ∙ e.held in
      let ready = dropped_ready b t a.orderly h in
      record { ready = ready; sizes = a.sizes; writes = omega (arith, fewer b t.writes h, ap length a.writes); next = a.next }

  pub evicted : (z : Sizes) (d : Device) → Evicted s (evict z b s d).state
  unfolding evict put_away ◌then◌ move nothing
  evicted z d = go (true_or_false (is_marked b s.writes))
    where
      go : (is_marked b s.writes ≡ true) ⊎ (is_marked b s.writes ≡ false) → Evicted s (evict z b s d).state
      go (inl m) = rw m (dropped stays)
      go (inr m) = rw m (dropped (away z (merged z s d b) d))

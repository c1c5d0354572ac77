-- A write's place made, and the log in it.
use Prim.Native.Nat.{ℕ, ◌≤◌, ◌<◌}
use mathlib.Core.Path.{◌≡◌, refl, sym, ap, ◌∙◌}
use mathlib.Core.Bool.{true, false}
use mathlib.Core.Logic.{◌⊎◌, inl, inr}
use mathlib.Core.List.{List}
use native.Mathlib.Omega.{arith}
use lib.ListN.{length}
use lib.Dec.{leb}
use borrow.Author.Tests.{leb-true, leb-false}
use Rattle.lists.proofs.Tests.{and_left, and_right, true_or_false}
use Rattle.model.specs.declared.Sizes.{Sizes}
use Rattle.std.specs.Prelude.{Option, Some, None}
use Rattle.model.specs.Sizes.{Device, pages_for}
use Rattle.model.specs.State.{State, holds, blank_of}
use Rattle.model.specs.Steps.{◌then◌, nothing, make_room}
use Rattle.model.specs.Operations.{victim, fits, outgoing, evict_any, make_way, start_log, write}
use Rattle.model.proofs.Limits.{Limits}
use Rattle.model.proofs.Write.{outgoing_held}
use Rattle.meter.specs.Run.{Run}
use Rattle.steps.specs.Turns.{Progress, after}
use Rattle.steps.specs.Ready.{Ready}
use Rattle.steps.proofs.Turns.{Steady, then_steady, room_steady, after_then}
use Rattle.evict.specs.PutAway.{Evicts}
use Rattle.evict.proofs.Evicted.{Evicted, evicted}
use Rattle.arrival.specs.Arrives.{kept_fits, Starts}
use Rattle.write.specs.Writes.{Yields, Writes}

pub yields_evicts : {s : State} {spare : List ℕ} → Yields s spare → (k : ℕ) → holds k s.writes ≡ true → Evicts s k
yields_evicts y k h = record { ready = y.ready; single = y.single; back = y.backs k h; held = h; epoch = omega (arith, y.epochs) }

-- b has a Write bucket, with enough blank pages by its record
pub fit_held : (b n : ℕ) (s : State) → kept_fits b n s ≡ true → holds b s.writes ≡ true
unfolding kept_fits
fit_held b n s h = and_left (holds b s.writes) (leb n (blank_of b s.writes)) h

pub fit_pages : (b n : ℕ) (s : State) → kept_fits b n s ≡ true → n ≤ blank_of b s.writes
unfolding kept_fits
fit_pages b n s h = leb-true n (blank_of b s.writes) (and_right (holds b s.writes) (leb n (blank_of b s.writes)) h)

-- if nothing gives way, the queue has room
pub nobody_room : (z : Sizes) (d : Device) (b : ℕ) (s : State) → outgoing z d b s ≡ None → length s.writes < z.w
unfolding outgoing
nobody_room z d b s e = go (true_or_false (holds b s.writes)) (true_or_false (leb z.w (length s.writes)))
  where
    go : (holds b s.writes ≡ true) ⊎ (holds b s.writes ≡ false) → (leb z.w (length s.writes) ≡ true) ⊎ (leb z.w (length s.writes) ≡ false)
        → length s.writes < z.w
    go (inl h) q = let is : Some b ≡ None = rw h at e in let never : ◌≡◌ {A = ℕ} 0 1 = cc in absurd (omega arith)
    go (inr n) (inl q) = let is : Some (victim z d s.writes) ≡ None = rw (n, q) at e in let never : ◌≡◌ {A = ℕ} 0 1 = cc in absurd (omega arith)
    go (inr n) (inr q) = leb-false z.w (length s.writes) q

-- t has a place in the write queue, and an epoch for the log
pub record Way (s t : State) : Type 0 where
  pub ready : Ready t
  pub sizes : t.sizes ≡ s.sizes
  pub place : length t.writes < 64
  pub epoch : t.next ≤ 4294967295

start_steady : (z : Sizes) (b off : ℕ) (bytes : List ℕ) → Steady (make_room z then start_log z b off bytes)
unfolding start_log
start_steady z b off bytes = then_steady (make_room z) (start_log z b off bytes) (room_steady z) (λ t d e. refl)

module _ (s : State) (spare : List ℕ) (y : Yields s spare) (d : Device) where
  evicted_way : {t : State} → Evicted s t → Way s t
  evicted_way e = record {
    ready = e.ready;
    sizes = e.sizes;
    place = omega (arith, e.writes, y.ready.orderly.bounded.writes);
    epoch = omega (arith, e.next, y.epochs);
  }

  way : (b : ℕ) → Way s (make_way s.sizes b s d).state
  unfolding make_way evict_any nothing
  way b = go (outgoing s.sizes d b s) refl
    where
      limits : Limits s.sizes
      limits = y.ready.orderly.limits

      go : (o : Option ℕ) → outgoing s.sizes d b s ≡ o → Way s (evict_any s.sizes o s d).state
      go (Some v) e = evicted_way (evicted s v (yields_evicts y v (outgoing_held s.sizes d b v s limits.w_low e)) s.sizes d)
      go None e = record {
        ready = y.ready;
        sizes = refl;
        place = omega (arith, nobody_room s.sizes d b s e, limits.w_high);
        epoch = omega (arith, y.epochs);
      }

module _ (s : State) (spare : List ℕ) (y : Yields s spare) (b : ℕ) (r : Run) {p : Progress} (e : p ≡ after s.sizes (make_way s.sizes b) s r) where
  pub way_left : Way s p.state
  unfolding after
  way_left = rw (ap (λ (q : Progress). q.state) e) (way s spare y r.device b)

  -- the log in the place that was made
  pub written_by : (off : ℕ) (bytes : List ℕ) {q : Progress} → fits s.sizes r.device b (pages_for s.sizes (length bytes)) s ≡ false
      → q ≡ after p.state.sizes (make_room p.state.sizes then start_log p.state.sizes b off bytes) p.state p.run
      → q ≡ after s.sizes (write s.sizes b off bytes) s r
  unfolding write after
  written_by off bytes full h =
      let z = s.sizes in
      let start = make_room z then start_log z b off bytes in
      rw full
      (h
      ∙ ap (λ (y : Sizes). after y (make_room y then start_log y b off bytes) p.state p.run) way_left.sizes
      ∙ ap (λ (x : Progress). after z start x.state x.run) e
      ∙ sym (after_then z (make_way z b) start (start_steady z b off bytes) s r refl))

pub write_starts : {s t : State} {n : ℕ} {spare : List ℕ} → Writes s n spare → Way s t → Starts t n
write_starts {s} {t} {n} w way = record {
  fresh = record { ready = way.ready; epoch = way.epoch; some = w.some; room = rw way.sizes w.room };
  place = way.place;
}

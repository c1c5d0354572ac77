-- A write moves the plain disk on with its last store, and what a write call owes.
use Prim.Native.Nat.{ℕ, ◌+◌, ◌≤◌, ◌<◌}
use mathlib.Core.Path.{◌≡◌, refl, sym, ap, ◌∙◌, subst}
use mathlib.Core.Logic.{◌⊎◌, inl, inr}
use mathlib.Core.Bool.{Bool, true, false}
use mathlib.Core.List.{List, [], ◌∷◌}
use native.Mathlib.Omega.{arith}
use native.Mathlib.Decide.{ℕ_discrete}
use lib.ListN.{length}
use lib.Dec.{leb}
use borrow.Author.Tests.{leb-true, leb-false}
use Rattle.std.specs.Prelude.{if◌then◌else◌, Some, None}
use Rattle.lists.specs.Lists.{splice}
use Rattle.lists.proofs.Tests.{true_or_false, and_left, and_right}
use Rattle.model.specs.declared.Sizes.{Sizes}
use Rattle.model.specs.declared.Entry.{Entry}
use Rattle.model.specs.Sizes.{Device, limits, pages_for}
use Rattle.model.specs.Stores.{apply_all}
use Rattle.model.specs.Image.{blanks}
use Rattle.model.specs.State.{State, holds, cache_of, without}
use Rattle.model.specs.Steps.{nothing, ◌then◌, make_room, evict}
use Rattle.model.specs.Operations.{last_epoch, goes_first, least_of, victim, fits, make_way, start_log, write, outgoing, evict_any}
use Rattle.model.specs.Calls.{write_call, tests, refusal, plan_of, is_done}
use Rattle.model.specs.Promise.{feed, disk_place}
use Rattle.model.proofs.Limits.{Limits, limits_of}
use Rattle.model.proofs.Invariant.{Inv, Owed, Pays}
use Rattle.model.proofs.Queues.{Maps, maps_here, holds_there, absent_without, still_absent, caches_of_one, length_without}
use Rattle.model.proofs.Inside.{Inside}
use Rattle.model.proofs.InsideLive.{inside, outside}
use Rattle.model.proofs.Steps.{Good, nothing_good, room_good, room_made}
use Rattle.model.proofs.Evict.{evict_good, evicted}
use Rattle.model.proofs.Calling.{Range, first_passed, Passed, tests_passed, place_passed}
use Rattle.model.proofs.WriteAccept.{Moves, then_moves}
use Rattle.model.proofs.WriteLog.{append_moves, start_moves}

-- ---- the victim stands in the queue

holds_later : (e : Entry) (l : List Entry) (b : ℕ) → holds b l ≡ true → holds b (e ∷ l) ≡ true
holds_later e l b h = go (ℕ_discrete e.back b)
  where
    go : Dec (e.back ≡ b) → holds b (e ∷ l) ≡ true
    go (yes q) = (maps_here e l b q).held
    go (no ne) = holds_there e l b ne ∙ h

holds-behind : (e f : Entry) (l : List Entry) (b : ℕ) → holds b (e ∷ l) ≡ true → holds b (e ∷ f ∷ l) ≡ true
holds-behind e f l b h = go (ℕ_discrete e.back b)
  where
    go : Dec (e.back ≡ b) → holds b (e ∷ f ∷ l) ≡ true
    go (yes q) = (maps_here e (f ∷ l) b q).held
    go (no ne) = holds_later e (f ∷ l) b (holds_later f l b (sym (holds_there e l b ne) ∙ h))

module _ (z : Sizes) (d : Device) where
  least_in : (best : Entry) (l : List Entry) → holds (least_of z d best l).back (best ∷ l) ≡ true
  unfolding least_of
  least_in best [] = (maps_here best [] best.back refl).held
  least_in best (e ∷ l) = go (goes_first z d e best) (least_in e l) (least_in best l)
    where
      go : (t : Bool) → holds (least_of z d e l).back (e ∷ l) ≡ true → holds (least_of z d best l).back (best ∷ l) ≡ true
          → holds (least_of z d (if t then e else best) l).back (best ∷ e ∷ l) ≡ true
      go true h k = holds_later best (e ∷ l) _ h
      go false h k = holds-behind best e l _ k

  pub victim_in : (l : List Entry) → 1 ≤ length l → holds (victim z d l) l ≡ true
  unfolding victim
  victim_in [] h = absurd (omega arith)
  victim_in (e ∷ l) h = least_in e l

-- what gives way is held
pub outgoing_held : (z : Sizes) (d : Device) (b v : ℕ) (s : State) → 1 ≤ z.w → outgoing z d b s ≡ Some v → holds v s.writes ≡ true
unfolding outgoing
outgoing_held z d b v s some e = go (true_or_false (holds b s.writes)) (true_or_false (leb z.w (length s.writes)))
  where
    go : (holds b s.writes ≡ true) ⊎ (holds b s.writes ≡ false) → (leb z.w (length s.writes) ≡ true) ⊎ (leb z.w (length s.writes) ≡ false)
        → holds v s.writes ≡ true
    go (inl h) q = let is : Some b ≡ Some v = rw h at e in let same : b ≡ v = cc in rw (← same) h
    go (inr n) (inl q) =
        let is : Some (victim z d s.writes) ≡ Some v = rw (n, q) at e in
        let same : victim z d s.writes ≡ v = cc in
        rw (← same) (victim_in z d s.writes (omega (arith, leb-true z.w (length s.writes) q)))
    go (inr n) (inr q) =
        let is : None ≡ Some v = rw (n, q) at e in
        let never : ◌≡◌ {A = ℕ} 0 1 = cc in
        absurd (omega arith)

-- ---- room in the write queue

-- b may join the write queue
record Open (z : Sizes) (b : ℕ) (s t : State) : Type 0 where
  absent_now : holds b t.writes ≡ false
  fewer : length t.writes < z.w
  next_near : t.next ≤ s.next + 1

module _ (z : Sizes) (B : Limits z) (plain : List ℕ) (s : State) (d : Device) (j : Inside z plain s d) (next_room : s.next ≤ last_epoch) (b : ℕ) where
  -- after v's bucket left
  module _ (v : ℕ) (h : holds v s.writes ≡ true) where
    maps_v : Maps s.writes v (cache_of v s.writes)
    maps_v = record { held = h; is = refl }

    evicts : Good z plain (evict z v s d) d
    evicts = evict_good z B plain s d j v (cache_of v s.writes) maps_v (omega arith)

    opens : holds b (without v s.writes) ≡ false → Open z b s (evict z v s d).state
    opens n =
        let e = evicted z B plain s d j v (cache_of v s.writes) maps_v (omega arith) in
        record {
          absent_now = rw e.writes_are n;
          fewer = rw e.writes_are (omega (arith, length_without s.writes v, ap length (caches_of_one s.writes v (cache_of v s.writes) maps_v), j.few_writes));
          next_near = e.next_near;
        }

  way_made : Good z plain (make_way z b s d) d × Open z b s (make_way z b s d).state
  unfolding make_way outgoing evict_any nothing
  way_made = go (true_or_false (holds b s.writes)) (true_or_false (leb z.w (length s.writes)))
    where
      go : (holds b s.writes ≡ true) ⊎ (holds b s.writes ≡ false) → (leb z.w (length s.writes) ≡ true) ⊎ (leb z.w (length s.writes) ≡ false)
          → Good z plain (make_way z b s d) d × Open z b s (make_way z b s d).state
      go (inl h) q = rw h (evicts b h, opens b h (absent_without s.writes b))
      go (inr n) (inl q) =
          let v = victim_in z d s.writes (omega (arith, leb-true z.w (length s.writes) q, B.w_low)) in
          rw (n, q) (evicts (victim z d s.writes) v, opens (victim z d s.writes) v (still_absent s.writes (victim z d s.writes) b n))
      go (inr n) (inr q) = rw (n, q) (nothing_good z plain s d d j, record { absent_now = n; fewer = leb-false z.w (length s.writes) q; next_near = omega arith })

  -- ---- the write

  module _ (off : ℕ) (bytes : List ℕ) (range : Range z b off (length bytes)) where
    anew : Moves z plain (splice plain (disk_place z b off) bytes) ((make_way z b then make_room z then start_log z b off bytes) s d) d
    anew =
        let way = way_made in
        let t = (make_way z b s d).state in
        let e = apply_all z d (make_way z b s d).stores in
        let room = room_made z B plain t e way.0.1 in
        let good = room_good z B plain t e way.0.1 in
        let after = splice plain (disk_place z b off) bytes in
        then_moves z plain after (make_way z b) (make_room z then start_log z b off bytes) s d j.sizes_are way.0
        (then_moves z plain after (make_room z) (start_log z b off bytes) t e way.0.1.sizes_are good
        (start_moves z B plain (make_room z t e).state _ good.1 b off bytes range room.has_free
        (ap (holds b) room.writes_same ∙ way.1.absent_now) (rw room.writes_same way.1.fewer) (omega (arith, room.next_same, way.1.next_near)) _))

    pub write_moves : Moves z plain (splice plain (disk_place z b off) bytes) (write z b off bytes s d) d
    unfolding write fits
    write_moves = go (true_or_false (fits z d b (pages_for z (length bytes)) s))
      where
        go : (fits z d b (pages_for z (length bytes)) s ≡ true) ⊎ (fits z d b (pages_for z (length bytes)) s ≡ false) → Moves z plain (splice plain (disk_place z b off) bytes) (write z b off bytes s d) d
        go (inl q) = rw q (append_moves z B plain s d j b off bytes range
            (and_left (holds b s.writes) (leb (pages_for z (length bytes)) (blanks z d (cache_of b s.writes))) q)
            (leb-true _ _ (and_right (holds b s.writes) (leb (pages_for z (length bytes)) (blanks z d (cache_of b s.writes))) q)))
        go (inr q) = rw q anew

-- ---- the call

pub write_passed : (s : State) (d : Device) (b off : ℕ) (bytes : List ℕ) → refusal (write_call b off bytes) s d ≡ 0
    → Passed s d × Range s.sizes b off (length bytes) × (s.next ≤ last_epoch)
unfolding refusal tests
write_passed s d b off bytes r =
    let run = tests_passed s d _ r in
    let place = place_passed s.sizes b off (length bytes) _ run.1 in
    (run.0, place.0, leb-true s.next last_epoch (first_passed 7 (leb s.next last_epoch) [] place.1).0)

pub write_pays : (z : Sizes) (b off : ℕ) (bytes : List ℕ) → Pays z (write_call b off bytes)
unfolding plan_of feed is_done
write_pays z b off bytes s d plain fit i r =
    subst (λ (y : Sizes). limits y ≡ true → Inv y s d plain → Owed y (write_call b off bytes) s d plain) i.sizes_are own fit i
  where
    own : limits s.sizes ≡ true → Inv s.sizes s d plain → Owed s.sizes (write_call b off bytes) s d plain
    own f i' =
        let pass = write_passed s d b off bytes r in
        let B = limits_of s.sizes f in
        let m = write_moves s.sizes B plain s d (inside s.sizes s d plain i' pass.0.runs) pass.2 b off bytes pass.1 in
        record { cuts = m.cuts; whole = λ counts. outside s.sizes B.p_low _ _ _ m.whole counts }

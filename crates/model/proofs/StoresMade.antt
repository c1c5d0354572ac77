-- The store bounds of a write, a read and an erase step.
use Prim.Native.Nat.{ℕ, ◌+◌, ◌-◌, ◌*◌, ◌≤◌, ◌<◌}
use mathlib.Core.Path.{◌≡◌, refl, ap, ◌∙◌}
use mathlib.Core.Logic.{◌⊎◌, inl, inr}
use mathlib.Core.Bool.{true, false}
use mathlib.Core.List.{List, [], ◌∷◌, append-nil}
use native.Mathlib.Omega.{arith}
use native.Mathlib.Nat.{le_of_eq}
use lib.ListN.{length, get_or, length-append}
use lib.Dec.{leb, ltb, eqb}
use borrow.Author.Tests.{ltb-true, eqb-true, leb-true}
use Rattle.std.specs.Prelude.{if◌then◌else◌}
use Rattle.lists.specs.Lists.{head, empty}
use Rattle.lists.proofs.Tests.{true_or_false}
use Rattle.lists.proofs.Rows.{length-row}
use Rattle.model.specs.declared.Sizes.{Sizes}
use Rattle.model.specs.Sizes.{Device, pages_for}
use Rattle.model.specs.Stores.{Store, erase, apply, apply_all, bucket_bytes, unit_store, unit_stores}
use Rattle.model.specs.Spare.{read_kind, write_kind, dirty_kind}
use Rattle.model.specs.Image.{epoch_of, is_dirty, blanks}
use Rattle.model.specs.State.{State, entry, holds, cache_of, is_marked}
use Rattle.model.specs.Steps.{Step, nothing, ◌then◌, move, erase_step, make_room, entry_stores, noted_erase, drop_write, log_store, log_stores, merged, fill_copy, copy, write_out, evict}
use Rattle.model.specs.Operations.{last_epoch, victim, fits, make_way, append_log, start_log, write, drop_oldest, read, outgoing, evict_any, without_oldest, is_current, set_mark, make_place, read_copy}
use Rattle.model.specs.Calls.{Call, read_call, write_call, erase_call, refusal, plan_of, carry_out, turned_down, call}
use Rattle.model.specs.StoresMade.{ledger_stores, FewStores}
use Rattle.model.proofs.Limits.{Limits, pages_whole, pages_fit}
use Rattle.model.proofs.Calling.{Range, Passed, read_passed}
use Rattle.model.proofs.Tested.{bounds, write-back, merged_size}
use Rattle.model.proofs.Write.{victim_in, write_passed}
use Rattle.model.proofs.Prefix.{apply_all_append}
use Rattle.model.proofs.Steps.{room_there}
use Rattle.model.proofs.ProgramsLedger.{entry_cost, entry_length, cost_most, three_or_four, cost_still, noted}
use Rattle.model.proofs.ProgramsPool.{Pool, erased_ledger, noted_pool, room_rises, taken_ledger}
use Rattle.model.proofs.ProgramsRise.{start, some}

-- ---- steps

-- one step after the other
then_most : (f g : Step) (s : State) (d : Device) (m n k : ℕ) → length (f s d).stores ≤ m → length (g (f s d).state (apply_all s.sizes d (f s d).stores)).stores ≤ n → m + n ≤ k
    → length ((f then g) s d).stores ≤ k
unfolding ◌then◌
then_most f g s d m n k hf hg h = rw (length-append (f s d).stores (g (f s d).state (apply_all s.sizes d (f s d).stores)).stores) (omega arith)

module _ (z : Sizes) where
  length_erase : (s : State) (d : Device) → length (erase_step z s d).stores ≤ entry_cost z d + 1
  unfolding erase_step noted_erase nothing
  length_erase s d = go (true_or_false (empty s.gc))
    where
      go : (empty s.gc ≡ true) ⊎ (empty s.gc ≡ false) → length (erase_step z s d).stores ≤ entry_cost z d + 1
      go (inl e) = rw e (omega arith)
      go (inr e) = let x = head s.gc in rw (e, length-append (entry_stores z d x) (erase x ∷ [])) (omega (arith, entry_length z d x))

  length_room : (s : State) (d : Device) → length (make_room z s d).stores ≤ entry_cost z d + 1
  unfolding make_room nothing
  length_room s d = go (true_or_false (empty s.free))
    where
      go : (empty s.free ≡ true) ⊎ (empty s.free ≡ false) → length (make_room z s d).stores ≤ entry_cost z d + 1
      go (inl e) = rw e (length_erase s d)
      go (inr e) = rw e (omega arith)

  length_log : (c first k e b off : ℕ) (bytes : List ℕ) → length (log_stores z c first k e b off bytes) ≡ pages_for z (length bytes)
  unfolding log_stores
  length_log c first k e b off bytes = length-row (pages_for z (length bytes)) (log_store z c first k e b off bytes)

  length_units : (b : ℕ) (bytes : List ℕ) → length (unit_stores z b bytes) ≡ z.p
  unfolding unit_stores
  length_units b bytes = length-row z.p (unit_store z b bytes)

  length-copy : (k b : ℕ) (bytes : List ℕ) (s : State) (d : Device) → length (copy z k b bytes s d).stores ≤ pages_for z (length bytes) + 3
  unfolding copy fill_copy
  length-copy k b bytes s d = then_most (make_room z) _ s d 3 (pages_for z (length bytes)) _ (omega (arith, length_room s d, cost_most z d)) (le_of_eq (length_log _ 0 k _ b 0 bytes)) (omega arith)

  -- ---- two erase steps of a call: after a hand-over the next one has none, where a ledger bucket has two pages or more

  -- stores of which at most m are no part of an erase step, and behind which another erase step may follow
  abbrev Spends : (d : Device) (m : ℕ) → List Store → Type 0
  Spends d m ss = length ss + entry_cost z (apply_all z d ss) ≤ m + 1 + ledger_stores z

  spends_few : (d : Device) (m : ℕ) (ss : List Store) → length ss ≤ m → Spends d m ss
  spends_few d m ss h = omega (arith, cost_most z (apply_all z d ss), three_or_four z)

  spends_move : (f : Step) (g : State → State) (s : State) (d : Device) (m : ℕ) → Spends d m (f s d).stores → Spends d m ((f then move g) s d).stores
  unfolding ◌then◌ move nothing
  spends_move f g s d m h = rw (append-nil (f s d).stores) h

  erase_spends : (s : State) (d : Device) → Pool z s d → Spends d 0 (erase_step z s d).stores
  unfolding erase_step noted_erase nothing apply_all
  erase_spends s d pool = go (true_or_false (empty s.gc))
    where
      x : ℕ
      x = head s.gc

      e : Device
      e = apply_all z d (entry_stores z d x)

      go : (empty s.gc ≡ true) ⊎ (empty s.gc ≡ false) → Spends d 0 (erase_step z s d).stores
      go (inl q) = rw q (spends_few d 0 [] (omega arith))
      go (inr q) = rw (q, length-append (entry_stores z d x) (erase x ∷ []), apply_all_append z d (entry_stores z d x) (erase x ∷ []))
          (omega (arith, (noted z pool.bounds d pool.lens pool.ledger x).next_few, cost_still z pool.bounds.p_low e (apply z e (erase x)) (erased_ledger z s e (noted_pool z s d pool x) q)))

  room_spends : (s : State) (d : Device) → Pool z s d → Spends d 0 (make_room z s d).stores
  unfolding make_room nothing
  room_spends s d pool = go (true_or_false (empty s.free))
    where
      go : (empty s.free ≡ true) ⊎ (empty s.free ≡ false) → Spends d 0 (make_room z s d).stores
      go (inl e) = rw e (erase_spends s d pool)
      go (inr e) = rw e (spends_few d 0 [] (omega arith))

  copy_spends : (s : State) (d : Device) → Pool z s d → (empty s.free ≡ false) ⊎ (empty s.gc ≡ false) → (k b : ℕ) (bytes : List ℕ) → k < 4 → pages_for z (length bytes) ≤ z.p
      → Spends d (pages_for z (length bytes)) (copy z k b bytes s d).stores
  unfolding copy fill_copy ◌then◌
  copy_spends s d pool some k b bytes hk fit =
      let room = room_rises z s d pool in
      let t = (make_room z s d).state in
      let e = apply_all z d (make_room z s d).stores in
      let log = log_stores z (head t.free) 0 k t.next b 0 bytes in
      rw (length-append (make_room z s d).stores log, apply_all_append z d (make_room z s d).stores log)
      (omega (
        arith,
        room_spends s d pool,
        length_log (head t.free) 0 k t.next b 0 bytes,
        cost_still z pool.bounds.p_low e (apply_all z e log) (taken_ledger z t e room.left (room_there z s d some).has_free k t.next b 0 bytes hk fit),
      ))

-- ---- a call that passed its tests

module _ (s : State) (d : Device) (pass : Passed s d) where
  abbrev z : Sizes
  z = s.sizes

  B : Limits s.sizes
  B = bounds s d pass

  merged-pages : (b : ℕ) → b < s.sizes.b → pages_for s.sizes (length (merged s.sizes s d b)) ≡ s.sizes.p
  merged-pages b hb = ap (pages_for z) (merged_size s d pass b hb) ∙ pages_whole z (omega (arith, B.s_low))

  copy_most : (k b : ℕ) → b < s.sizes.b → (t : State) (e : Device) → length (copy s.sizes k b (merged s.sizes s d b) t e).stores ≤ s.sizes.p + 3
  copy_most k b hb t e = omega (arith, length-copy z k b (merged z s d b) t e, merged-pages b hb)

  -- ---- a read

  oldest_most : length (drop_oldest s.sizes s d).stores ≤ s.sizes.p
  unfolding drop_oldest without_oldest nothing
  oldest_most = go (true_or_false (ltb (length s.reads) z.r)) (true_or_false (is_dirty z d (get_or s.reads 0 (entry 0 0 0)).cache))
    where
      go : (ltb (length s.reads) z.r ≡ true) ⊎ (ltb (length s.reads) z.r ≡ false)
          → (is_dirty z d (get_or s.reads 0 (entry 0 0 0)).cache ≡ true) ⊎ (is_dirty z d (get_or s.reads 0 (entry 0 0 0)).cache ≡ false) → length (drop_oldest z s d).stores ≤ z.p
      go (inl f) q = rw f (omega arith)
      go (inr f) (inl q) = rw (f, q) (omega (arith, length_units z (get_or s.reads 0 (entry 0 0 0)).back (bucket_bytes z d (get_or s.reads 0 (entry 0 0 0)).cache)))
      go (inr f) (inr q) = rw (f, q) (omega arith)

  place_most : (b : ℕ) → length (make_place s.sizes b s d).stores ≤ s.sizes.p
  unfolding make_place nothing
  place_most b = go (true_or_false (holds b s.reads))
    where
      go : (holds b s.reads ≡ true) ⊎ (holds b s.reads ≡ false) → length (make_place z b s d).stores ≤ z.p
      go (inl r) = rw r (omega arith)
      go (inr r) = rw r oldest_most

  copy-read_most : (b : ℕ) → b < s.sizes.b → length (read_copy s.sizes b (merged s.sizes s d b) s d).stores ≤ 2 * s.sizes.p + 1 + 2
  unfolding read_copy move nothing
  copy-read_most b hb =
      let k = if holds b s.writes then dirty_kind else read_kind in
      let bytes = merged z s d b in
      then_most (make_place z b) (copy z k b bytes then move (set_mark b)) s d z.p (z.p + 3) _ (place_most b)
      (then_most (copy z k b bytes) (move (set_mark b)) _ _ (z.p + 3) 0 _ (copy_most k b hb _ _) (omega arith) (omega arith)) (omega arith)

  read_most : (b : ℕ) → b < s.sizes.b → length (read s.sizes b s d).stores ≤ 2 * s.sizes.p + 1 + 2
  unfolding read nothing move
  read_most b hb = go (true_or_false (ltb last_epoch s.next)) (true_or_false (is_current b s))
    where
      go : (ltb last_epoch s.next ≡ true) ⊎ (ltb last_epoch s.next ≡ false) → (is_current b s ≡ true) ⊎ (is_current b s ≡ false) → length (read z b s d).stores ≤ 2 * z.p + 1 + 2
      go (inl e) c = rw e (omega arith)
      go (inr e) (inl c) = rw (e, c) (omega arith)
      go (inr e) (inr c) = rw (e, c) (copy-read_most b hb)

  -- ---- a write

  evict_spends : (b : ℕ) → holds b s.writes ≡ true → Spends s.sizes d s.sizes.p (evict s.sizes b s d).stores
  unfolding evict nothing write_out
  evict_spends b h = go (true_or_false (is_marked b s.writes)) (true_or_false (holds b s.reads))
    where
      hb : b < z.b
      hb = write-back s d pass b (cache_of b s.writes) (record { held = h; is = refl })

      go : (is_marked b s.writes ≡ true) ⊎ (is_marked b s.writes ≡ false) → (holds b s.reads ≡ true) ⊎ (holds b s.reads ≡ false) → Spends z d z.p (evict z b s d).stores
      go (inl m) r = rw m (spends_move z nothing (drop_write b) s d z.p (spends_few z d z.p [] (omega arith)))
      go (inr m) (inl r) = rw (m, r) (spends_move z (copy z dirty_kind b (merged z s d b)) (drop_write b) s d z.p
          (omega (arith, copy_spends z s d (start s d pass) (some s d pass) dirty_kind b (merged z s d b) (omega arith) (le_of_eq (merged-pages b hb)), merged-pages b hb)))
      go (inr m) (inr r) = rw (m, r) (spends_move z (write_out z b (merged z s d b)) (drop_write b) s d z.p
          (spends_few z d z.p (unit_stores z b (merged z s d b)) (le_of_eq (length_units z b (merged z s d b)))))

  way_spends : (b : ℕ) → Spends s.sizes d s.sizes.p (make_way s.sizes b s d).stores
  unfolding make_way outgoing evict_any nothing
  way_spends b = go (true_or_false (holds b s.writes)) (true_or_false (leb z.w (length s.writes)))
    where
      go : (holds b s.writes ≡ true) ⊎ (holds b s.writes ≡ false) → (leb z.w (length s.writes) ≡ true) ⊎ (leb z.w (length s.writes) ≡ false)
          → Spends z d z.p (make_way z b s d).stores
      go (inl h) q = rw h (evict_spends b h)
      go (inr h) (inl q) = rw (h, q) (evict_spends (victim z d s.writes) (victim_in z d s.writes (omega (arith, leb-true z.w (length s.writes) q, B.w_low))))
      go (inr h) (inr q) = rw (h, q) (spends_few z d z.p [] (omega arith))

  write_most : (b off : ℕ) (bytes : List ℕ) → Range s.sizes b off (length bytes) → length (write s.sizes b off bytes s d).stores ≤ 2 * s.sizes.p + 2 + ledger_stores s.sizes
  unfolding write append_log start_log
  write_most b off bytes range = go (true_or_false (fits z d b (pages_for z (length bytes)) s))
    where
      few : pages_for z (length bytes) ≤ z.p
      few = pages_fit z (length bytes) (omega (arith, B.s_low)) (omega (arith, range.range_in))

      after : Device
      after = apply_all z d (make_way z b s d).stores

      log : (t : State) (e : Device) → length (start_log z b off bytes t e).stores ≤ z.p
      log t e = omega (arith, length_log z (head t.free) 0 write_kind t.next b off bytes, few)

      go : (fits z d b (pages_for z (length bytes)) s ≡ true) ⊎ (fits z d b (pages_for z (length bytes)) s ≡ false) → length (write z b off bytes s d).stores ≤ 2 * z.p + 2 + ledger_stores z
      go (inl q) =
          let w = cache_of b s.writes in
          rw q (omega (arith, length_log z w (z.p - blanks z d w) write_kind (epoch_of z d w) b off bytes, few))
      go (inr q) =
          let t = (make_way z b s d).state in
          let room = make_room z t after in
          rw q (then_most (make_way z b) (make_room z then start_log z b off bytes) s d (length (make_way z b s d).stores) (entry_cost z after + 1 + z.p) _ (omega arith)
          (then_most (make_room z) (start_log z b off bytes) t after (entry_cost z after + 1) z.p _ (length_room z t after) (log room.state (apply_all t.sizes after room.stores)) (omega arith))
          (omega (arith, way_spends b)))

-- ---- the calls

call_most : (n : ℕ) (k : Call) (s : State) (d : Device) (m : ℕ) → (refusal k s d ≡ 0 → length (plan_of k s d).stores ≤ m) → (call n k s d).stores ≤ m
unfolding call carry_out turned_down
call_most n k s d m h = go (true_or_false (eqb (refusal k s d) 0)) (true_or_false (ltb n (length (plan_of k s d).stores)))
  where
    go : (eqb (refusal k s d) 0 ≡ true) ⊎ (eqb (refusal k s d) 0 ≡ false)
        → (ltb n (length (plan_of k s d).stores) ≡ true) ⊎ (ltb n (length (plan_of k s d).stores) ≡ false) → (call n k s d).stores ≤ m
    go (inr r) q = rw r (omega arith)
    go (inl r) (inl q) = rw (r, q) (omega (arith, h (eqb-true (refusal k s d) 0 r), ltb-true n (length (plan_of k s d).stores) q))
    go (inl r) (inr q) = rw (r, q) (h (eqb-true (refusal k s d) 0 r))

pub few_stores : FewStores
unfolding plan_of
few_stores = record {
  writes = λ n b off bytes s d. call_most n (write_call b off bytes) s d (2 * s.sizes.p + 2 + ledger_stores s.sizes) (λ r. let pass = write_passed s d b off bytes r in write_most s d pass.0 b off bytes pass.1);
  reads = λ n b off buffer s d. call_most n (read_call b off buffer) s d (2 * s.sizes.p + 1 + 2) (λ r. let pass = read_passed s d b off buffer r in read_most s d pass.0 b pass.1.b_in);
  erases = λ n s d. call_most n erase_call s d (1 + 2) (λ r. omega (arith, length_erase s.sizes s d, cost_most s.sizes d));
}

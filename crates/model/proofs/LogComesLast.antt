-- The last page of its log is a write's last store.
use Prim.Native.Nat.{ℕ, suc, ◌+◌, ◌-◌}
use mathlib.Core.Path.{◌≡◌, refl, sym, ap, ◌∙◌}
use mathlib.Core.Logic.{◌⊎◌, inl, inr}
use mathlib.Core.Bool.{true, false, true≢false}
use mathlib.Core.List.{List, [], ◌∷◌, ◌++◌, append_assoc}
use native.Mathlib.Omega.{arith}
use lib.ListN.{length, take, length-append}
use lib.Seq.{take-append-le}
use lib.Dec.{leb}
use borrow.Author.Tests.{eq-eqb, lt-ltb, le-ltb}
use Rattle.lists.specs.Lists.{head, empty, row, all}
use Rattle.lists.proofs.Tests.{true_or_false}
use Rattle.model.specs.declared.Sizes.{Sizes}
use Rattle.model.specs.declared.Answer.TheVariants.{Done}
use Rattle.std.specs.Prelude.{Option, Some, None}
use Rattle.model.specs.Sizes.{Device, pages_for}
use Rattle.model.specs.Stores.{Store, program, erase, unit, apply_all, unit_stores}
use Rattle.model.specs.Spare.{write_kind, dirty_kind, kind, tag_bytes, entry_tag}
use Rattle.model.specs.Image.{epoch_of, blanks}
use Rattle.model.specs.Ledger.{in_use}
use Rattle.model.specs.State.{State, holds, cache_of, is_marked}
use Rattle.model.specs.Steps.{Step, nothing, ◌then◌, move, entry_store, entry_stores, noted_erase, erase_step, make_room, drop_write, log_store, log_stores, merged, fill_copy, copy, write_out, evict}
use Rattle.model.specs.Operations.{fits, outgoing, evict_any, make_way, append_log, start_log, write}
use Rattle.model.specs.Calls.{Call, write_call, refusal, sizes_of, plan_of, done_answer, carry_out, call}
use Rattle.model.specs.StoresMade.{DoneWith, makes_way, EndsWithLog, LogComesLast}
use Rattle.model.proofs.Limits.{pages-some}
use Rattle.model.proofs.Tested.{bounds}
use Rattle.model.proofs.Write.{write_passed}
use Rattle.model.proofs.Programs.{is_no_program, all-joined, all_row, none_units}

-- ---- a call and its last store

module _ (k : Call) (s : State) (d : Device) (r : refusal k s d ≡ 0) (is_done_lem : done_answer k s ≡ Done) (others : List Store) (last : Store)
    (e : (plan_of k s d).stores ≡ others ++ (last ∷ [])) where
  stores_count : length (plan_of k s d).stores ≡ length others + 1
  stores_count = ap length e ∙ length-append others (last ∷ [])

  done_with_last : DoneWith k s d others last
  unfolding call carry_out
  done_with_last = record {
    stores_are = e;
    cut = λ n h. rw (eq-eqb (refusal k s d) 0 r, lt-ltb n (length (plan_of k s d).stores) (omega (arith, stores_count)))
        (refl, ap (apply_all (sizes_of k s) d) (ap (take n) e ∙ take-append-le n others (last ∷ []) h));
    done = λ n h. rw (eq-eqb (refusal k s d) 0 r, le-ltb n (length (plan_of k s d).stores) (omega (arith, stores_count)))
        (is_done_lem, ap (apply_all (sizes_of k s) d) e);
  }

-- ---- what comes before the log

none-makes_way : (ss : List Store) → all is_no_program ss ≡ true → all makes_way ss ≡ true
unfolding all is_no_program makes_way
none-makes_way [] h = refl
none-makes_way (program c k bytes tag ∷ ss) h = absurd (true≢false (sym h))
none-makes_way (erase c ∷ ss) h = none-makes_way ss h
none-makes_way (unit u bytes ∷ ss) h = none-makes_way ss h

then_makes_way : (f g : Step) (s : State) (d : Device) → all makes_way (f s d).stores ≡ true → ((t : State) (e : Device) → all makes_way (g t e).stores ≡ true) → all makes_way ((f then g) s d).stores ≡ true
unfolding ◌then◌
then_makes_way f g s d h k = all-joined makes_way (f s d).stores _ h (k (f s d).state (apply_all s.sizes d (f s d).stores))

module _ (z : Sizes) where
  erase_makes_way : (s : State) (d : Device) → all makes_way (erase_step z s d).stores ≡ true
  unfolding erase_step noted_erase entry_stores entry_store entry_tag makes_way kind tag_bytes nothing all
  erase_makes_way s d = go (true_or_false (empty s.gc)) (true_or_false (leb 1 (blanks z d (in_use z d))))
    where
      go : (empty s.gc ≡ true) ⊎ (empty s.gc ≡ false) → (leb 1 (blanks z d (in_use z d)) ≡ true) ⊎ (leb 1 (blanks z d (in_use z d)) ≡ false) → all makes_way (erase_step z s d).stores ≡ true
      go (inl e) q = rw e
      go (inr e) (inl q) = rw (e, q)
      go (inr e) (inr q) = rw (e, q)

  room_makes_way : (s : State) (d : Device) → all makes_way (make_room z s d).stores ≡ true
  unfolding make_room nothing all
  room_makes_way s d = go (true_or_false (empty s.free))
    where
      go : (empty s.free ≡ true) ⊎ (empty s.free ≡ false) → all makes_way (make_room z s d).stores ≡ true
      go (inl f) = rw f (erase_makes_way s d)
      go (inr f) = rw f

  copy-makes_way : (b : ℕ) (bytes : List ℕ) (s : State) (d : Device) → all makes_way (copy z dirty_kind b bytes s d).stores ≡ true
  unfolding copy fill_copy log_stores log_store makes_way kind tag_bytes
  copy-makes_way b bytes s d = then_makes_way (make_room z) (fill_copy z dirty_kind b bytes) s d (room_makes_way s d)
      (λ t e. all_row makes_way (pages_for z (length bytes)) (log_store z (head t.free) 0 dirty_kind t.next b 0 bytes) (λ o. refl))

  evict-makes_way : (v : ℕ) (s : State) (d : Device) → all makes_way (evict z v s d).stores ≡ true
  unfolding evict move nothing write_out all
  evict-makes_way v s d = go (true_or_false (is_marked v s.writes)) (true_or_false (holds v s.reads))
    where
      go : (is_marked v s.writes ≡ true) ⊎ (is_marked v s.writes ≡ false) → (holds v s.reads ≡ true) ⊎ (holds v s.reads ≡ false) → all makes_way (evict z v s d).stores ≡ true
      go (inl m) h = rw m (then_makes_way nothing (move (drop_write v)) s d refl (λ t e. refl))
      go (inr m) (inl h) = rw (m, h) (then_makes_way (copy z dirty_kind v (merged z s d v)) (move (drop_write v)) s d (copy-makes_way v (merged z s d v) s d) (λ t e. refl))
      go (inr m) (inr h) = rw (m, h) (then_makes_way (write_out z v (merged z s d v)) (move (drop_write v)) s d (none-makes_way (unit_stores z v (merged z s d v)) (none_units z v (merged z s d v))) (λ t e. refl))

  any-makes_way : (v : Option ℕ) (s : State) (d : Device) → all makes_way (evict_any z v s d).stores ≡ true
  unfolding evict_any nothing all
  any-makes_way None s d = refl
  any-makes_way (Some v) s d = evict-makes_way v s d

-- ---- a write

module _ (b off : ℕ) (bytes : List ℕ) (s : State) (d : Device) (r : refusal (write_call b off bytes) s d ≡ 0) where
  abbrev z : Sizes
  z = s.sizes

  some_page : pages_for s.sizes (length bytes) ≡ suc (pages_for s.sizes (length bytes) - 1)
  some_page =
      let pass = write_passed s d b off bytes r in
      omega (arith, pages-some z (length bytes) (omega (arith, (bounds s d pass.0).s_low)) pass.1.n_some)

  ends_with_log : (before : List Store) (c first e : ℕ) → all makes_way before ≡ true
      → (write s.sizes b off bytes s d).stores ≡ before ++ log_stores s.sizes c first write_kind e b off bytes → EndsWithLog b off bytes s d
  unfolding plan_of done_answer log_stores row
  ends_with_log before c first e way is =
      let page = log_store z c first write_kind e b off bytes in
      let highest = pages_for z (length bytes) - 1 in
      record {
        before = before;
        bucket = c;
        first = first;
        epoch = e;
        highest = highest;
        ways_made = way;
        is_highest = omega (arith, some_page);
        done_with = done_with_last (write_call b off bytes) s d r refl (before ++ row highest page) (page highest)
            (is ∙ ap (λ (n : ℕ). before ++ row n page) some_page ∙ sym (append_assoc before (row highest page) (page highest ∷ [])));
      }

pub log_comes_last : LogComesLast
unfolding LogComesLast write make_way ◌then◌ append_log start_log all
log_comes_last b off bytes s d r = go (true_or_false (fits s.sizes d b (pages_for s.sizes (length bytes)) s))
  where
    go : (fits s.sizes d b (pages_for s.sizes (length bytes)) s ≡ true) ⊎ (fits s.sizes d b (pages_for s.sizes (length bytes)) s ≡ false) → EndsWithLog b off bytes s d
    go (inl q) =
        let w = cache_of b s.writes in
        ends_with_log b off bytes s d r [] w (s.sizes.p - blanks s.sizes d w) (epoch_of s.sizes d w) refl (rw q)
    go (inr q) =
        let way = make_way s.sizes b s d in
        let e = apply_all s.sizes d way.stores in
        let room = make_room s.sizes way.state e in
        ends_with_log b off bytes s d r (way.stores ++ room.stores) (head room.state.free) 0 room.state.next
        (all-joined makes_way way.stores room.stores (any-makes_way s.sizes (outgoing s.sizes d b s) s d) (room_makes_way s.sizes way.state e))
        (rw q (sym (append_assoc way.stores room.stores _)))

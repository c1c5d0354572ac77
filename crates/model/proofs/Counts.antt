-- Kept counts are true after every call, and a write goes by them.
use Prim.Native.Nat.{ℕ, ◌+◌}
use mathlib.Core.Path.{◌≡◌, refl, sym, ap, ◌∙◌}
use mathlib.Core.Bool.{Bool, true, false, true≢false}
use mathlib.Core.List.{List, [], ◌∷◌, map}
use borrow.Author.Tests.{eq-eqb, eqb-true}
use Rattle.lists.specs.Lists.{all, below, keep}
use Rattle.lists.proofs.Tests.{every_at, and-true}
use Rattle.model.specs.declared.Sizes.{Sizes}
use Rattle.model.specs.Sizes.{Device}
use Rattle.model.specs.Stores.{Store, program, erase, unit, apply, apply_all, tag_of, unit_store, unit_stores}
use Rattle.model.specs.Image.{blanks}
use Rattle.model.specs.State.{State, moved, entry, holds, count_agrees, write_agrees, top_epoch, state_fits, blank_of, cache_of}
use Rattle.model.specs.Operations.{drain, format}
use Rattle.model.specs.Recover.{by_epoch, is_rescued, rescued, rescue_stores, kept_write, kept_writes, rebuilt, swept, recover}
use Rattle.model.specs.Calls.{Call, format_call, read_call, write_call, erase_call, drain_call, recover_call, Outcome, refusal, sizes_of, plan_of, turned_down, call}
use Rattle.model.specs.Counts.{is_finished, CountsTrue, CountDecides}
use Rattle.model.proofs.Prefix.{apply_all_append}
use Rattle.model.proofs.Programs.{all_row, all_concat}
use Rattle.model.proofs.QueuesGrown.{held_record}
use Rattle.model.proofs.KeptCounts.{blanks-same}
use Rattle.model.proofs.Calling.{read_passed}
use Rattle.model.proofs.Write.{write_passed}
use Rattle.model.proofs.Outcomes.{Ends, refused, cut, done, ends}
use Rattle.model.proofs.ProgramsPool.{Counted, erase_rises}
use Rattle.model.proofs.ProgramsRise.{erase_passed, start, read_rises, write_rises}

-- ---- recovery: behind its erases its stores are units, which leave the spare area

unfoldable is_unit : Store → Bool
is_unit (program c k bytes tag) = false
is_unit (erase c) = false
is_unit (unit u bytes) = true

units_spare : (z : Sizes) (ss : List Store) → all is_unit ss ≡ true → (d : Device) → (apply_all z d ss).spare ≡ d.spare
unfolding all is_unit apply_all apply
units_spare z [] h d = refl
units_spare z (program c k bytes tag ∷ ss) h d = absurd (true≢false (sym h))
units_spare z (erase c ∷ ss) h d = absurd (true≢false (sym h))
units_spare z (unit u bytes ∷ ss) h d = units_spare z ss h (apply z d (unit u bytes))

rebuilt_units : (z : Sizes) (d : Device) (n : ℕ) → all is_unit (rebuilt z d n).stores ≡ true
unfolding rebuilt rescue_stores unit_stores unit_store is_unit
rebuilt_units z d n = all_concat is_unit (rescue_stores z d) (λ b. all_row is_unit z.p (unit_store z b (rescued z d b)) (λ u. refl)) (keep (is_rescued z d) (below z.b))

counts_recovered : (z : Sizes) (d e : Device) → e.spare ≡ d.spare → (l : List ℕ) → all (count_agrees z e) (map (kept_write z d) l) ≡ true
unfolding all count_agrees kept_write entry tag_of
counts_recovered z d e same [] = refl
counts_recovered z d e same (w ∷ l) = and-true (eq-eqb (blanks z d w) _ (sym (blanks-same z d e w (λ k hk. rw same)))) (counts_recovered z d e same l)

-- the counts are those of the chip as the erases leave it
recover_counts : (z : Sizes) (d : Device) → Counted z (recover z d).state (apply_all z d (recover z d).stores)
unfolding recover rebuilt
recover_counts z d =
    let erases = map erase (swept z d) in
    let e = apply_all z d erases in
    let p = rebuilt z e (top_epoch z d + 1) in
    record {
      at_sizes = refl;
      counts = rw (apply_all_append z d erases p.stores) (counts_recovered z e _ (units_spare z p.stores (rebuilt_units z e (top_epoch z d + 1)) e) (by_epoch z e (kept_writes z e)));
    }

-- ---- what a call leaves

counts_own : (k : Call) (s : State) (d : Device) → refusal k s d ≡ 0 → Counted (sizes_of k s) (plan_of k s d).state (apply_all (sizes_of k s) d (plan_of k s d).stores)
unfolding sizes_of plan_of all format drain moved
counts_own (format_call z) s d r = record { at_sizes = refl; counts = refl }
counts_own (read_call b off buffer) s d r = let pass = read_passed s d b off buffer r in (read_rises s d pass.0 b pass.1.b_in).left
counts_own (write_call b off bytes) s d r = let pass = write_passed s d b off bytes r in (write_rises s d pass.0 b off bytes pass.1).left
counts_own erase_call s d r = (erase_rises s.sizes s d (start s d (erase_passed s d r))).left.counted
counts_own drain_call s d r = record { at_sizes = refl; counts = refl }
counts_own (recover_call z) s d r = recover_counts z d

pub counts_left : (z : Sizes) (k : Call) (s : State) (d : Device) → sizes_of k s ≡ z → refusal k s d ≡ 0 → all (count_agrees z (apply_all z d (plan_of k s d).stores)) (plan_of k s d).state.writes ≡ true
counts_left z k s d e r = rw (← e) (counts_own k s d r).counts

pub counts_true : CountsTrue
unfolding CountsTrue is_finished turned_down
counts_true n k s d h = go (ends n k s d)
  where
    never : (o : Outcome) → call n k s d ≡ o → is_finished o.answer ≡ false → all (count_agrees (call n k s d).state.sizes (call n k s d).device) (call n k s d).state.writes ≡ true
    never o e q = absurd (true≢false (sym h ∙ ap (λ (x : Outcome). is_finished x.answer) e ∙ q))

    go : Ends n k s d → all (count_agrees (call n k s d).state.sizes (call n k s d).device) (call n k s d).state.writes ≡ true
    go (refused r e) = never _ e refl
    go (cut r u e) = never _ e refl
    go (done r e) = let own = counts_own k s d r in rw (e, own.at_sizes) own.counts

-- ---- what a write goes by

-- number 5 says so
pub kept_count : (s : State) (d : Device) → state_fits s d ≡ true → (b : ℕ) → holds b s.writes ≡ true → blanks s.sizes d (cache_of b s.writes) ≡ blank_of b s.writes
unfolding state_fits write_agrees count_agrees blank_of cache_of
kept_count s d fits b h = sym (eqb-true _ _ (every_at _ (held_record (write_agrees s.sizes d) s.writes b (every_at _ fits 6) h) 3))

pub count_decides : CountDecides
unfolding CountDecides
count_decides b off bytes s d r h = kept_count s d (write_passed s d b off bytes r).0.state_fits_lem b h

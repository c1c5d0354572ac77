-- The companions of the promise, from what each call owes.
use Prim.Native.Nat.{ℕ}
use mathlib.Core.Path.{◌≡◌, refl, sym, subst}
use mathlib.Core.Logic.{◌⊎◌, inl, inr}
use mathlib.Core.Bool.{Bool, true, false, not, ◌||◌, true≢false}
use mathlib.Core.List.{List, [], ◌∷◌, ◌++◌}
use lib.Dec.{eqb}
use borrow.Author.Tests.{not-true}
use Rattle.std.specs.Prelude.{if◌then◌else◌}
use Rattle.lists.specs.Lists.{all, empty}
use Rattle.lists.proofs.Tests.{and_left, and_right}
use Rattle.model.specs.declared.Sizes.{Sizes}
use Rattle.model.specs.declared.Answer.TheVariants.{Done, Idle, Refused}
use Rattle.model.specs.Tests.{Test, first_failed}
use Rattle.model.specs.Sizes.{Device, limits, lengths}
use Rattle.model.specs.Stores.{apply_all}
use Rattle.model.specs.Ledger.{well_formed}
use Rattle.model.specs.State.{State}
use Rattle.model.specs.Calls.{Call, format_call, read_call, write_call, erase_call, drain_call, recover_call, lent_tests, running_tests, place_tests, tests, refusal, is_done, sizes_of, plan_of, done_answer, turned_down, call}
use Rattle.model.specs.Promise.{whole, other, MayStand, lent_of}
use Rattle.model.specs.Companions.{is_distrust, Trusted, Drained}
use Rattle.model.proofs.Frames.{lengths_test}
use Rattle.model.proofs.Invariant.{Inv}
use Rattle.model.proofs.Outcomes.{Ends, refused, cut, done, ends}
use Rattle.model.proofs.Induction.{Each, recover-taken}

-- ---- the chip and the state are trusted

-- a test of another number than 4 and 5
unfoldable is_own_test : Test → Bool
is_own_test t = not (eqb t.0 4 || eqb t.0 5)

own_first : (ts : List Test) → all is_own_test ts ≡ true → eqb (first_failed ts) 4 || eqb (first_failed ts) 5 ≡ false
unfolding all is_own_test first_failed
own_first [] h = refl
own_first (t ∷ ts) h = go t.1 (own_first ts (and_right (is_own_test t) (all is_own_test ts) h))
  where
    go : (q : Bool) → eqb (first_failed ts) 4 || eqb (first_failed ts) 5 ≡ false
        → (let r = (if q then first_failed ts else t.0) in eqb r 4 || eqb r 5) ≡ false
    go true e = e
    go false e = not-true _ (and_left (is_own_test t) (all is_own_test ts) h)

module _ (z : Sizes) (fits-limits : limits z ≡ true) where
  -- a state of the engine's own is turned down for not running, or for what a call's own tests say
  running-tests : (s : State) (d : Device) (plain : List ℕ) (more : List Test) → Inv z s d plain
      → (first_failed (running_tests s d ++ more) ≡ 3) ⊎ (first_failed (running_tests s d ++ more) ≡ first_failed more)
  unfolding running_tests lent_tests first_failed
  running-tests s d plain more i = go s.running refl
    where
      ls : limits s.sizes ≡ true
      ls = rw i.sizes_are fits-limits

      ll : lengths s.sizes d ≡ true
      ll = rw i.sizes_are (lengths_test z d i.found.lens)

      go : (r : Bool) → s.running ≡ r
          → (first_failed (running_tests s d ++ more) ≡ 3) ⊎ (first_failed (running_tests s d ++ more) ≡ first_failed more)
      go false e = inl (rw (ls, ll, e))
      go true e =
          let v = i.live e in
          let w : well_formed s.sizes d ≡ true = rw i.sizes_are v.formed in
          let f = v.fits in
          inr (rw (ls, ll, w, f, e))

  -- the number that a call's own tests give
  own_trusted : (s : State) (d : Device) (plain : List ℕ) (more : List Test) → Inv z s d plain → all is_own_test more ≡ true
      → is_distrust (Refused (first_failed (running_tests s d ++ more))) ≡ false
  unfolding is_distrust
  own_trusted s d plain more i h = go (running-tests s d plain more i)
    where
      go : (first_failed (running_tests s d ++ more) ≡ 3) ⊎ (first_failed (running_tests s d ++ more) ≡ first_failed more)
          → eqb (first_failed (running_tests s d ++ more)) 4 || eqb (first_failed (running_tests s d ++ more)) 5 ≡ false
      go (inl e) = rw e
      go (inr e) = rw e (own_first more h)

  refusal_trusted : (k : Call) (s : State) (d : Device) (plain : List ℕ) → MayStand z k → Inv z s d plain → is_distrust (Refused (refusal k s d)) ≡ false
  unfolding MayStand refusal tests running_tests lent_tests place_tests all is_own_test is_distrust
  refusal_trusted (format_call y) s d plain m i = absurd m
  refusal_trusted (read_call b off buffer) s d plain m i = own_trusted s d plain _ i refl
  refusal_trusted (write_call b off bytes) s d plain m i = own_trusted s d plain _ i refl
  refusal_trusted erase_call s d plain m i = own_trusted s d plain [] i refl
  refusal_trusted drain_call s d plain m i = own_trusted s d plain [] i refl
  refusal_trusted (recover_call y) s d plain m i = rw (m, recover-taken z fits-limits s d plain i.found)

  done_trusted : (k : Call) (s : State) → is_distrust (done_answer k s) ≡ false
  unfolding is_distrust done_answer
  done_trusted (format_call y) s = refl
  done_trusted (read_call b off buffer) s = refl
  done_trusted (write_call b off bytes) s = refl
  done_trusted erase_call s = go (empty s.gc)
    where
      go : (q : Bool) → is_distrust (if q then Idle else Done) ≡ false
      go true = refl
      go false = refl
  done_trusted drain_call s = refl
  done_trusted (recover_call y) s = refl

  pub trusted : Each z Trusted
  unfolding Trusted lent_of turned_down is_distrust
  trusted n k m s d plain i (other part) lent = tt
  trusted n k m s d plain i whole lent = go (ends n k s d)
    where
      go : Ends n k s d → is_distrust (call n k s d).answer ≡ false
      go (refused r e) = rw e (refusal_trusted k s d plain m i)
      go (cut r h e) = rw e
      go (done r e) = rw e (done_trusted k s)

-- ---- a drained disk

module _ (z : Sizes)
    (drains : (s : State) (d : Device) (plain : List ℕ) → Inv z s d plain → refusal drain_call s d ≡ 0 → (apply_all z d (plan_of drain_call s d).stores).disk ≡ plain) where
  drained_whole : (n : ℕ) (s : State) (d : Device) (plain : List ℕ) → Inv z s d plain → is_done (call n drain_call s d).answer ≡ true → (call n drain_call s d).device.disk ≡ plain
  unfolding turned_down is_done sizes_of
  drained_whole n s d plain i = go (ends n drain_call s d)
    where
      go : Ends n drain_call s d → is_done (call n drain_call s d).answer ≡ true → (call n drain_call s d).device.disk ≡ plain
      go (refused r e) = rw e (λ h. absurd (true≢false (sym h)))
      go (cut r k e) = rw e (λ h. absurd (true≢false (sym h)))
      go (done r e) = rw e (λ h. subst (λ (y : Sizes). (apply_all y d (plan_of drain_call s d).stores).disk ≡ plain) (sym i.sizes_are) (drains s d plain i r))

  pub drained : Each z Drained
  unfolding Drained lent_of
  drained n (format_call y) m s d plain i l lent = tt
  drained n (read_call b off buffer) m s d plain i l lent = tt
  drained n (write_call b off bytes) m s d plain i l lent = tt
  drained n erase_call m s d plain i l lent = tt
  drained n drain_call m s d plain i whole lent = drained_whole n s d plain i
  drained n drain_call m s d plain i (other part) lent = tt
  drained n (recover_call y) m s d plain i l lent = tt

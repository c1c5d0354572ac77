-- A preview tells what its write does.
use Prim.Native.Nat.{ℕ}
use mathlib.Core.Path.{◌≡◌, refl, ◌∙◌}
use mathlib.Core.Logic.{◌⊎◌, inl, inr}
use mathlib.Core.Bool.{true, false}
use mathlib.Core.List.{List}
use native.Mathlib.Omega.{arith}
use lib.ListN.{length}
use lib.Dec.{ltb, eqb}
use borrow.Author.Tests.{le-ltb, lt-ltb}
use Rattle.lists.proofs.Tests.{true_or_false}
use Rattle.model.specs.declared.Answer.TheVariants.{Done, Cut, Refused}
use Rattle.std.specs.Prelude.{None}
use Rattle.model.specs.Sizes.{Device}
use Rattle.model.specs.State.{State}
use Rattle.model.specs.Calls.{Call, is_done, is_cut, write_call, refusal, plan_of, done_answer, carry_out, turned_down, call}
use Rattle.model.specs.Preview.{victim_of, preview_of, Tells, PreviewTells}

module _ (b off : ℕ) (bytes : List ℕ) (s : State) (d : Device) where
  abbrev k : Call
  k = write_call b off bytes

  -- the stores that the write plans
  abbrev planned : ℕ
  planned = length (plan_of (write_call b off bytes) s d).stores

  -- an allowance of just as many is enough
  enough : ltb (length (plan_of (write_call b off bytes) s d).stores) (length (plan_of (write_call b off bytes) s d).stores) ≡ false
  enough = le-ltb planned planned (omega arith)

  -- a write that is not turned down
  taken_up : eqb (refusal (write_call b off bytes) s d) 0 ≡ true
      → preview_of b off bytes s d
      ≡ record { answer = Done; stores = length (plan_of (write_call b off bytes) s d).stores; victim = victim_of b (length bytes) s d; next = (plan_of (write_call b off bytes) s d).state.next }
  unfolding preview_of call carry_out done_answer is_done
  taken_up r = rw (r, enough)

  turned_down_lem : eqb (refusal (write_call b off bytes) s d) 0 ≡ false
      → preview_of b off bytes s d ≡ record { answer = Refused (refusal (write_call b off bytes) s d); stores = 0; victim = None; next = s.next }
  unfolding preview_of call turned_down is_done
  turned_down_lem r = rw r

  tells : Tells b off bytes s d
  unfolding call carry_out turned_down done_answer is_cut
  tells = go (true_or_false (eqb (refusal k s d) 0))
    where
      go : (eqb (refusal k s d) 0 ≡ true) ⊎ (eqb (refusal k s d) 0 ≡ false) → Tells b off bytes s d
      go (inl r) = record {
        suffices = λ n. rw (taken_up r) (λ h. rw (r, le-ltb n planned h) (refl, refl, refl));
        falls_short = λ n. rw (taken_up r) (λ h. rw (r, lt-ltb n planned h));
        refuses = λ n x e. absurd (finishes n x (true_or_false (ltb n planned)) e);
        never_cut = rw (taken_up r);
      }
        where
          finishes : (n x : ℕ) → (ltb n planned ≡ true) ⊎ (ltb n planned ≡ false) → (call n k s d).answer ≡ Refused x → ⊥
          finishes n x (inl q) e = let is : Cut ≡ Refused x = rw (r, q) at e in let never : ◌≡◌ {A = ℕ} 0 1 = cc in omega arith
          finishes n x (inr q) e = let is : Done ≡ Refused x = rw (r, q) at e in let never : ◌≡◌ {A = ℕ} 0 1 = cc in omega arith
      go (inr r) = record {
        suffices = λ n. rw (turned_down_lem r) (λ h. rw r (refl, refl, refl));
        falls_short = λ n. rw (turned_down_lem r) (λ h. absurd (omega arith));
        refuses = λ n x e.
            let is : Refused (refusal k s d) ≡ Refused x = rw r at e in
            let same : refusal k s d ≡ x = cc in
            turned_down_lem r ∙ rw same;
        never_cut = rw (turned_down_lem r);
      }

pub preview_tells : PreviewTells
unfolding PreviewTells
preview_tells b off bytes s d = tells b off bytes s d

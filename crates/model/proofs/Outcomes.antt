-- The three ways in which a call ends: turned down, cut short, carried out.
use Prim.Native.Nat.{ℕ, ◌<◌}
use mathlib.Core.Path.{◌≡◌, refl}
use mathlib.Core.Bool.{Bool, true, false}
use lib.ListN.{length, take}
use lib.Dec.{ltb, eqb}
use borrow.Author.Tests.{ltb-true, eqb-true}
use Rattle.model.specs.declared.Answer.TheVariants.{Cut}
use Rattle.model.specs.Sizes.{Device}
use Rattle.model.specs.Stores.{apply_all}
use Rattle.model.specs.State.{State, stopped}
use Rattle.model.specs.Calls.{Call, Outcome, refusal, sizes_of, plan_of, done_answer, lent_buffer, read_buffer, carry_out, turned_down, call}

module _ (n : ℕ) (k : Call) (s : State) (d : Device) where
  abbrev pub cut_short : Outcome
  cut_short = record { answer = Cut; stores = n; state = stopped s; device = apply_all (sizes_of k s) d (take n (plan_of k s d).stores); buffer = lent_buffer k }

  abbrev pub carried_out : Outcome
  carried_out = record {
    answer = done_answer k s;
    stores = length (plan_of k s d).stores;
    state = (plan_of k s d).state;
    device = apply_all (sizes_of k s) d (plan_of k s d).stores;
    buffer = read_buffer k s d;
  }

  pub data Ends : Type 0 where
    refused : eqb (refusal k s d) 0 ≡ false → call n k s d ≡ turned_down (refusal k s d) k s d → Ends
    cut : refusal k s d ≡ 0 → n < length (plan_of k s d).stores → call n k s d ≡ cut_short → Ends
    done : refusal k s d ≡ 0 → call n k s d ≡ carried_out → Ends

  pub ends : Ends
  unfolding call carry_out
  ends = go (eqb (refusal k s d) 0) refl (ltb n (length (plan_of k s d).stores)) refl
    where
      go : (q : Bool) → eqb (refusal k s d) 0 ≡ q → (r : Bool) → ltb n (length (plan_of k s d).stores) ≡ r → Ends
      go false e r f = refused e (rw e)
      go true e true f = cut (eqb-true (refusal k s d) 0 e) (ltb-true n (length (plan_of k s d).stores) f) (rw (e, f))
      go true e false f = done (eqb-true (refusal k s d) 0 e) (rw (e, f))

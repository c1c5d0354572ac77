-- Demand 3 of structs, from demand 3 of the states that they show.
use Prim.Native.Nat.{ℕ}
use mathlib.Core.Path.{sym, subst}
use mathlib.Core.List.{List, [], ◌∷◌}
use Rattle.model.specs.declared.Sizes.{Sizes}
use Rattle.model.specs.Sizes.{Device}
use Rattle.model.specs.State.{State}
use Rattle.model.specs.Calls.{format_call, Outcome, call}
use Rattle.model.specs.Promise.{Item, lent_of, left_of, after_call, feed, Claim, Throughout, Always, AlwaysHolds, Promised, NothingLost}
use Rattle.model.proofs.Theorem.{nothing_lost}
use Rattle.state.specs.declared.State.{State as Struct}
use Rattle.state.specs.View.{view_of}
use Rattle.outcome.proofs.Ends.{handed_view}
use Rattle.promise.specs.Structs.{handed_on, AlwaysOfStructs, NothingLostOfStructs}

module _ (claim : Claim) where
  -- of the states that the definitions hand on
  abbrev OfStates : Sizes → List Item → State → Device → List ℕ → Type 0
  OfStates = Throughout (λ (s : State). s) (λ (s : State) (o : Outcome). o.state) claim

  of_structs : (z : Sizes) (xs : List Item) (s : Struct) (d : Device) (plain : List ℕ) → OfStates z xs (view_of s) d plain → Throughout view_of handed_on claim z xs s d plain
  unfolding Throughout handed_on
  of_structs z [] s d plain h = tt
  of_structs z (x ∷ xs) s d plain h = λ may lent.
      let here = h may lent in
      let o = call x.allowance x.request (view_of s) (lent_of x.lent d) in
      let left = left_of x.lent d (after_call z x (view_of s) (lent_of x.lent d) o) in
      let fed = feed z x.request o.answer plain in
      let shown = handed_view x.allowance x.request s (lent_of x.lent d) in
      (here.0, of_structs z xs (handed_on s o) left fed (subst (λ (t : State). OfStates z xs t left fed) (sym shown) here.1))

  pub always_of_structs : AlwaysHolds claim → AlwaysOfStructs claim
  unfolding AlwaysHolds AlwaysOfStructs Always handed_on
  always_of_structs holds z n s d xs done =
      let o = call n (format_call z) (view_of s) d in
      of_structs z xs (handed_on s o) o.device d.disk
      (subst (λ (t : State). OfStates z xs t o.device d.disk) (sym (handed_view n (format_call z) s d)) (holds z n (view_of s) d xs done))

pub nothing_lost_of_structs : NothingLostOfStructs
unfolding NothingLostOfStructs NothingLost
nothing_lost_of_structs = always_of_structs Promised nothing_lost

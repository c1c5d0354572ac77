-- The first test that fails: tests behind others.
use Prim.Native.Nat.{ℕ}
use mathlib.Core.Path.{◌≡◌, refl, ◌∙◌}
use mathlib.Core.Bool.{Bool, true, false}
use mathlib.Core.List.{List, [], ◌∷◌, ◌++◌}
use native.Mathlib.Omega.{arith}
use lib.Dec.{leb}
use borrow.Author.Tests.{leb-true}
use Rattle.std.specs.Prelude.{Result}
use Rattle.std.specs.Result.{IsErrAnd}
use Rattle.lists.specs.Lists.{all}
use Rattle.lists.proofs.Tests.{and_left, and_right}
use Rattle.model.specs.declared.Refusal.{Refusal}
use Rattle.model.specs.Tests.{Test, first_failed, number_of, number}
use Rattle.model.proofs.Refusals.{refused_lem, handed_on}

-- a test whose number says that it failed
unfoldable pub numbered : Test → Bool
numbered t = leb 1 t.0

-- the tests behind one that fails are not asked
pub stays : (ts us : List Test) {r : ℕ} → r ≡ first_failed ts → (r ≡ 0 → ⊥) → r ≡ first_failed (ts ++ us)
unfolding first_failed
stays [] us e h = absurd (h e)
stays ((n, true) ∷ ts) us e h = stays ts us e h
stays ((n, false) ∷ ts) us e h = e

-- behind tests that are passed they are
pub goes_on_lem : (ts us : List Test) → all numbered ts ≡ true → first_failed ts ≡ 0 → first_failed (ts ++ us) ≡ first_failed us
unfolding first_failed all numbered
goes_on_lem [] us k h = refl
goes_on_lem ((n, true) ∷ ts) us k h = goes_on_lem ts us (and_right (leb 1 n) (all numbered ts) k) h
goes_on_lem ((n, false) ∷ ts) us k h = absurd (omega (arith, leb-true 1 n (and_left (leb 1 n) (all numbered ts) k)))

-- tests of which none fails, and those before them
pub none_fails : (ts us : List Test) → all numbered ts ≡ true → first_failed (ts ++ us) ≡ 0 → (first_failed ts ≡ 0) × (first_failed us ≡ 0)
unfolding first_failed all numbered
none_fails [] us k h = (refl, h)
none_fails ((n, true) ∷ ts) us k h = none_fails ts us (and_right (leb 1 n) (all numbered ts) k) h
none_fails ((n, false) ∷ ts) us k h = absurd (omega (arith, leb-true 1 n (and_left (leb 1 n) (all numbered ts) k)))

-- nor are they where `?` hands on why it failed
pub stays_on : (ts us : List Test) (r : Result (Unit {0}) Refusal) (e : Refusal) → IsErrAnd r (λ (x : Refusal). x ≡ e) → number_of e ≡ first_failed ts
    → number r ≡ first_failed (ts ++ us)
stays_on ts us r e h k = handed_on r e h ∙ stays ts us k (refused_lem e)

-- The tests that are asked once those before them are passed.
use Prim.Native.Nat.{ℕ}
use mathlib.Core.Path.{◌≡◌, refl, sym, ap, ◌∙◌}
use mathlib.Core.Bool.{true}
use mathlib.Core.List.{List, [], ◌∷◌, ◌++◌, append_assoc}
use lib.Dec.{leb, ltb}
use Rattle.std.specs.Prelude.{if◌then◌else◌}
use Rattle.lists.specs.Lists.{all}
use Rattle.model.specs.declared.Sizes.{Sizes}
use Rattle.model.specs.Sizes.{Device}
use Rattle.model.specs.Image.{body_fits}
use Rattle.model.specs.Ledger.{well_formed, recoverable}
use Rattle.model.specs.State.{State, state_fits}
use Rattle.model.specs.Operations.{last_epoch}
use Rattle.model.specs.Tests.{Test, first_failed}
use Rattle.model.specs.Calls.{lent_tests, running_tests, range_fits, place_tests}
use Rattle.checks.proofs.Failed.{numbered, goes_on_lem}

pub lent_numbered : (z : Sizes) (d : Device) → all numbered (lent_tests z d) ≡ true
unfolding lent_tests all numbered
lent_numbered z d = refl

pub running-numbered : (s : State) (d : Device) → all numbered (running_tests s d) ≡ true
unfolding running_tests lent_tests all numbered
running-numbered s d = refl

pub image_rest : (z : Sizes) (d : Device) → first_failed (lent_tests z d) ≡ 0
    → first_failed (lent_tests z d ++ ((4, body_fits z d) ∷ [])) ≡ (if body_fits z d then 0 else 4)
unfolding first_failed
image_rest z d h = goes_on_lem (lent_tests z d) ((4, body_fits z d) ∷ []) (lent_numbered z d) h

pub recover-rest : (z : Sizes) (d : Device) → first_failed (lent_tests z d) ≡ 0
    → first_failed (lent_tests z d ++ ((4, recoverable z d) ∷ [])) ≡ (if recoverable z d then 0 else 4)
unfolding first_failed
recover-rest z d h = goes_on_lem (lent_tests z d) ((4, recoverable z d) ∷ []) (lent_numbered z d) h

module _ (s : State) (d : Device) where
  pub running-rest : first_failed (lent_tests s.sizes d) ≡ 0
      → first_failed (running_tests s d) ≡ (if s.running then (if well_formed s.sizes d then (if state_fits s d then 0 else 5) else 4) else 3)
  unfolding first_failed running_tests
  running-rest h =
      goes_on_lem (lent_tests s.sizes d) ((3, s.running) ∷ (4, well_formed s.sizes d) ∷ (5, state_fits s d) ∷ []) (lent_numbered s.sizes d) h

  module _ (b off n : ℕ) where
    pub read-rest : first_failed (running_tests s d) ≡ 0
        → first_failed (running_tests s d ++ place_tests s.sizes b off n) ≡ (if ltb b s.sizes.b then (if range_fits s.sizes off n then 0 else 7) else 6)
    unfolding first_failed place_tests
    read-rest h = goes_on_lem (running_tests s d) (place_tests s.sizes b off n) (running-numbered s d) h

    abbrev pub reading : List Test
    reading = running_tests s d ++ place_tests s.sizes b off n

    -- a write's tests are a read's, and one more
    pub writing : reading ++ ((8, leb s.next last_epoch) ∷ []) ≡ running_tests s d ++ (place_tests s.sizes b off n ++ ((8, leb s.next last_epoch) ∷ []))
    writing = append_assoc (running_tests s d) (place_tests s.sizes b off n) ((8, leb s.next last_epoch) ∷ [])

    reading_numbered : all numbered reading ≡ true
    unfolding running_tests lent_tests place_tests all numbered
    reading_numbered = refl

    pub write-rest : first_failed reading ≡ 0
        → first_failed (running_tests s d ++ (place_tests s.sizes b off n ++ ((8, leb s.next last_epoch) ∷ []))) ≡ (if leb s.next last_epoch then 0 else 8)
    unfolding first_failed
    write-rest h = ap first_failed (sym writing) ∙ goes_on_lem reading ((8, leb s.next last_epoch) ∷ []) reading_numbered h

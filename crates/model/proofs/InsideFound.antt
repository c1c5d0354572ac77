-- The invariant inside a call is what recovery finds: no bucket with a page is named.
use Prim.Native.Nat.{ℕ, ◌-◌, ◌≤◌}
use mathlib.Core.List.{List}
use native.Mathlib.Omega.{arith}
use Rattle.model.specs.declared.Sizes.{Sizes}
use Rattle.model.specs.Sizes.{Device}
use Rattle.model.specs.State.{State, top_epoch}
use Rattle.model.proofs.Formed.{top_least}
use Rattle.model.proofs.Findable.{Findable}
use Rattle.model.proofs.FindableRuns.{sound_found}
use Rattle.model.proofs.Inside.{Inside, sound}

module _ (z : Sizes) (p_pos : 1 ≤ z.p) (plain : List ℕ) (s : State) (d : Device) (j : Inside z plain s d) where
  pub top_below : top_epoch z d ≤ s.next - 1
  top_below = top_least z d (s.next - 1) (λ c hc. omega (arith, j.next_above c hc)) (λ i hi. omega (arith, j.ledger.below_next i hi))

  pub inside_found : Findable z plain d
  inside_found = sound_found z p_pos plain d s.next j.next_high j.ledger (sound z plain s d j)

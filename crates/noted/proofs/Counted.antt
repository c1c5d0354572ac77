-- An erase and its entry, counted.
use Prim.Native.Nat.{ℕ, ◌+◌}
use mathlib.Core.Path.{◌≡◌, sym, ap, ◌∙◌}
use mathlib.Core.Logic.{◌⊎◌, inl, inr}
use mathlib.Core.Bool.{true, false}
use native.Mathlib.Omega.{arith}
use lib.Dec.{leb}
use lib.ListN.{length}
use Rattle.std.specs.Prelude.{if◌then◌else◌}
use Rattle.lists.proofs.Tests.{true_or_false}
use Rattle.model.specs.declared.Sizes.{Sizes}
use Rattle.model.specs.Sizes.{Device}
use Rattle.model.specs.Steps.{noted_erase}
use Rattle.model.proofs.Limits.{Limits}
use Rattle.model.proofs.ProgramsLedger.{entry_room, entry_cost, room_after, noted_length, noted_room}
use Rattle.noted.specs.declared.Cost.{Cost}
use Rattle.noted.specs.Costs.{Costs}

module _ (z : Sizes) (room : ℕ) where
  erase_cost : (d : Device) (x : ℕ) → entry_room z d ≡ room → length (noted_erase z d x) ≡ (if leb 1 room then 2 else 3)
  unfolding entry_cost
  erase_cost d x e = rw e at (noted_length z d x) ∙ go (true_or_false (leb 1 room))
    where
      go : (leb 1 room ≡ true) ⊎ (leb 1 room ≡ false) → (if leb 1 room then 1 else 2) + 1 ≡ (if leb 1 room then 2 else 3)
      go (inl t) = rw t (omega arith)
      go (inr f) = rw f (omega arith)

  pub counted : Limits z → (r : Cost) → r.stores ≡ (if leb 1 room then 2 else 3) → r.room ≡ room_after z room → Costs z room r
  counted limits r stores left = record {
    stores = λ d x e. stores ∙ sym (erase_cost d x e);
    left = λ d x L s hx e. left ∙ ap (room_after z) (sym e) ∙ sym (noted_room z limits d L s x hx);
  }

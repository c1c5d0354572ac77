-- Numbers each of which its slot names or that stand once are distinct, whatever the slots hold.
use Prim.Native.Nat.{ℕ, ◌%◌, ◌<◌}
use mathlib.Core.Path.{◌≡◌, refl, sym, ap, ◌∙◌}
use mathlib.Core.Logic.{inl, inr}
use mathlib.Core.Bool.{Bool, true, false}
use mathlib.Core.List.{List}
use native.Mathlib.Omega.{arith}
use lib.ListN.{length, get_or}
use Rattle.lists.specs.Lists.{times, distinct}
use Rattle.lists.proofs.Counts.{distinct-times}
use Rattle.lists.proofs.Places.{times_at, one_place, places_distinct}
use Rattle.rules.specs.Slots.{Alone}

module _ (items : List ℕ) where
  pub alone_distinct : (slots : List ℕ) → ((i : ℕ) → i < length items → Alone items slots i) → distinct items ≡ true
  alone_distinct slots alone = places_distinct items (λ i j h g e. go i j h g e (alone i h) (alone j g))
    where
      go : (i j : ℕ) → i < length items → j < length items → get_or items i 0 ≡ get_or items j 0 → Alone items slots i → Alone items slots j → i ≡ j
      go i j h g e (inl a) (inl b) = sym a ∙ (ap (λ (x : ℕ). get_or slots (x % 1024) 0) e ∙ b)
      go i j h g e (inr t) b = one_place (get_or items i 0) items t i j h g refl (sym e)
      go i j h g e (inl a) (inr t) = one_place (get_or items j 0) items t i j h g e refl

  pub not_alone : (i : ℕ) → i < length items → (times (get_or items i 0) items ≡ 1 → ⊥) → distinct items ≡ false
  not_alone i h n = go (distinct items) refl
    where
      go : (t : Bool) → distinct items ≡ t → distinct items ≡ false
      go true e = absurd (n (let x = get_or items i 0 in omega (arith, distinct-times items e x, times_at x items i h refl)))
      go false e = e

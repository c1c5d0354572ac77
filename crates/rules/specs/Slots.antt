-- Numbers that differ from all others of a list.
use Rattle.std.specs.Prelude.{ℕ, ◌%◌, ◌≡◌, ◌⊎◌, Bool, true, false, List, get_or}
use Rattle.lists.specs.Lists.{times}

-- the slot of number i names its place, or the number stands once
abbrev pub Alone : List ℕ → List ℕ → ℕ → Type 0
Alone items slots i = (get_or slots (get_or items i 0 % 1024) 0 ≡ i) ⊎ (times (get_or items i 0) items ≡ 1)

-- what a test of number i says
abbrev pub Tells : List ℕ → List ℕ → ℕ → Bool → Type 0
Tells items slots i r = (r ≡ true → Alone items slots i) × (r ≡ false → times (get_or items i 0) items ≡ 1 → ⊥)

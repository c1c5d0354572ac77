-- A list from an index on, and whether a number stands in it.
use mathlib.Core.Path.{◌≡◌}
use mathlib.Core.Bool.{false, ◌||◌}
use mathlib.Core.List.{List}
use Prim.Native.Nat.{ℕ, ◌+◌, ◌-◌, ◌<◌, ◌≤◌}
use native.Mathlib.Numerals.{add-one}
use native.Mathlib.Omega.{arith}
use lib.ListN.{length, take, drop, get_or, length-drop, drop_of_length-le}
use lib.Seq.{drop-cons, take_all}
use lib.Dec.{eqb}
use Rattle.lists.specs.Lists.{any, member}

module _ (l : List ℕ) (i : ℕ) where
  pub member-step : (x : ℕ) → i < length l → member x (drop i l) ≡ (eqb x (get_or l i 0) || member x (drop (i + 1) l))
  unfolding member any
  member-step x h = rw (add-one i, drop-cons l i 0 h)

  pub member_end : (x : ℕ) → length l ≤ i → member x (drop i l) ≡ false
  unfolding member any
  member_end x h = rw (drop_of_length-le l h)

  -- what is lent from an index on
  pub lent_rest : take (length l - i) (drop i l) ≡ drop i l
  lent_rest = take_all (length l - i) (drop i l) (omega (arith, length-drop i l))

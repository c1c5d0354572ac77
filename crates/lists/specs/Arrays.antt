-- Lists kept in arrays: the first places of an array of c places are the list.
use Rattle.std.specs.Prelude.{ℕ, ◌-◌, List, ◌++◌, length, take, replicate}

module _ {A : Type 0} where
  -- m behind l in c places: what finds no place is lost
  unfoldable pub joined : ℕ → List A → List A → List A
  joined c l m = take c (l ++ m)

  -- l in c places, with d in the places behind it
  unfoldable pub padded : ℕ → A → List A → List A
  padded c d l = l ++ replicate (c - length l) d

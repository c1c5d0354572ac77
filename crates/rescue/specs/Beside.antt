-- The buckets of an order that a number stands beside in a column.
use Rattle.std.specs.Prelude.{ℕ, ◌≤◌, ◌<◌, ◌≡◌, Bool, false, List, [], ◌∷◌, eqb, length, get_or, if◌then◌else◌}
use Rattle.model.specs.declared.Sizes.{Sizes}
use Rattle.model.specs.Sizes.{Device}
use Rattle.model.specs.Image.{is_dirty}
use Rattle.model.specs.Recover.{is_dropped_write, is_dropped_copy}

unfoldable pub beside : ℕ → (column order : List ℕ) → List ℕ
beside x [] order = []
beside x (y ∷ column) [] = []
beside x (y ∷ column) (c ∷ order) = if eqb x y then c ∷ beside x column order else beside x column order

-- from one place on, x stands nowhere before another
pub record Passed (x : ℕ) (column : List ℕ) (from to : ℕ) : Type 0 where
  pub low : from ≤ to
  pub high : to ≤ length column
  pub none : (j : ℕ) → from ≤ j → j < to → eqb x (get_or column j 0) ≡ false

-- a dropped copy that is Dirty, or a dropped Write bucket
abbrev pub is_unwritten : Sizes → Device → ℕ → Bool
is_unwritten z d c = if is_dirty z d c then is_dropped_copy z d c else is_dropped_write z d c

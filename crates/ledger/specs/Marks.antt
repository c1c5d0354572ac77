-- What a page of the ledger names, and the marks of the named buckets.
use Rattle.std.specs.Prelude.{ℕ, ◌≡◌, ◌<◌, Bool, false, ◌&&◌, List, get_or, ltb, eqb, Option, MatchOption}
use Rattle.model.specs.declared.Sizes.{Sizes}
use Rattle.model.specs.Sizes.{Device, body}
use Rattle.model.specs.Ledger.{names, named}

module _ (z : Sizes) (d : Device) where
  -- the bucket outside the ledger that page i names, and no other, or none
  abbrev pub NamedBy : ℕ → Option ℕ → Type 0
  NamedBy i result = MatchOption result
      ((x : ℕ) → x < body z → names z d x i ≡ false)
      (λ y. (y < body z) × ((x : ℕ) → x < body z → names z d x i ≡ eqb x y))

  -- each bucket outside the ledger has one at its own place if it is named, and behind them stand none
  abbrev pub Marks : List Bool → Type 0
  Marks marks = (x : ℕ) → get_or marks x false ≡ (ltb x (body z) && named z d x)

-- The lines of a text that comes in pieces.
use Rattle.std.specs.Prelude.{ℕ, ◌-◌, ◌≡◌, List, ◌++◌, drop}
use Rattle.lists.specs.Lists.{part}
use Rattle.model.specs.Driving.{lines_from}

-- the bytes of a piece from one place to another are of one line
abbrev pub OneLine : (piece : List ℕ) → (from end : ℕ) → Type 0
OneLine piece from end = (line rest : List ℕ) → lines_from line (drop from piece ++ rest) ≡ lines_from (line ++ part piece from (end - from)) (drop end piece ++ rest)

-- The epochs that pages and buckets say.
use Rattle.std.specs.Prelude.{ℕ, ◌<◌, ◌≡◌, Bool, true, false, List, map, eqb, Option, Some, None}
use Rattle.lists.specs.Lists.{keep, below, distinct}
use Rattle.model.specs.Spare.{blank, programmed, kind, epoch}

-- n, or none where the test fails
abbrev pub some_if : Bool → ℕ → Option ℕ
some_if true n = Some n
some_if false n = None

-- what a page says that is blank if it has no kind
abbrev pub PageEpoch : List ℕ → Option ℕ → Type 0
PageEpoch tag result = blank tag ≡ eqb (kind tag) 255 → result ≡ some_if (programmed tag) (epoch tag)

-- whether the numbers f c of those c below the end that pass the test differ, where each c says so
abbrev pub Differ : (ℕ → Option ℕ → Type 0) → ℕ → Bool → Type 0
Differ Says end result = (test : ℕ → Bool) (f : ℕ → ℕ) → ((c : ℕ) (r : Option ℕ) → c < end → Says c r → r ≡ some_if (test c) (f c))
    → result ≡ distinct (map f (keep test (below end)))

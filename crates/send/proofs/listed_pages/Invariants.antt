use mathlib.Core.Bool.{Bool, not}
use mathlib.Core.List.{List}
use mathlib.Core.Path.{◌≡◌}
use Prim.Native.Nat.{ℕ, ◌*◌}
use Rattle.lists.specs.Lists.{count_below, part}
use Rattle.model.specs.Spare.{blank}
use Rattle.send.proofs.listed_pages.Given as goal

-- the loop knows no sizes, and the test asks for none
abbrev pub listed : (spare : List ℕ) → ℕ → Bool
listed spare g = not (blank (part spare (g * 16) 16))

abbrev pub invariant-loop-page : goal.invariant-loop-page
invariant-loop-page l = l.count ≡ count_below l.page (listed l.spare)

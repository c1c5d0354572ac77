use Prim.Native.Nat.{ℕ, ◌≤◌, ◌<◌}
use mathlib.Core.Path.{◌≡◌}
use mathlib.Core.Bool.{Bool}
use mathlib.Core.List.{map}
use lib.ListN.{length, take}
use Rattle.std.specs.Prelude.{Option}
use Rattle.lists.specs.Lists.{keep, below}
use Rattle.rules.specs.Epochs.{some_if}
use Rattle.rules.proofs.epochs_differ.Given as goal

abbrev pub invariant-loop-c : goal.invariant-loop-c
invariant-loop-c g l = (l.n ≤ l.c) × (length l.epochs ≡ 256)
    × ((test : ℕ → Bool) (f : ℕ → ℕ) → ((c : ℕ) (r : Option ℕ) → c < l.end → goal.F-post g l.epoch c r → r ≡ some_if (test c) (f c)) → take l.n l.epochs ≡ map f (keep test (below l.c)))

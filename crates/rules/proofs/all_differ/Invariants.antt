use Rattle.rules.specs.Slots.{Alone}
use Prim.Native.Nat.{ℕ, ◌<◌}
use Rattle.rules.proofs.all_differ.Given as goal

abbrev pub invariant-loop-i : goal.invariant-loop-i
invariant-loop-i l = (j : ℕ) → j < l.i → Alone l.items l.slots j

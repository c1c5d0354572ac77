use Rattle.std.proofs.Common.{◌≡◌, ◌&&◌, length, drop}
use Rattle.lists.specs.Lists.{same}
use Rattle.spare.proofs.equal.Given as goal

abbrev pub invariant-loop-i : goal.invariant-loop-i
invariant-loop-i l = (length l.a ≡ length l.b) × ((l.alike && same (drop l.i l.a) (drop l.i l.b)) ≡ same l.a l.b)

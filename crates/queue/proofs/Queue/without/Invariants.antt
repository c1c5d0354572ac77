use Prim.Native.Nat.{◌≤◌}
use mathlib.Core.Path.{◌≡◌}
use lib.ListN.{length, take, drop}
use Rattle.model.specs.State.{without}
use Rattle.queue.proofs.Queue.without.Given as goal

abbrev pub invariant-loop-i : goal.invariant-loop-i
invariant-loop-i l = record {
  behind : l.kept ≤ l.i;
  places : length l.self.items ≡ 64;
  first : length l.initial.self.items ≡ 64;
  kept : take l.kept l.self.items ≡ without l.b (take l.i l.initial.self.items);
  rest : drop l.i l.self.items ≡ drop l.i l.initial.self.items;
}

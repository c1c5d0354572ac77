use mathlib.Core.List.{map}
use mathlib.Core.Path.{◌≡◌}
use lib.ListN.{length, take, drop}
use Rattle.model.specs.declared.Entry.{Entry}
use Rattle.queue.proofs.Queue.changed.Given as goal

abbrev pub invariant-loop-i : goal.invariant-loop-i
invariant-loop-i g l = record {
  places : length l.self.items ≡ 64;
  first : length l.initial.self.items ≡ 64;
  rest : drop l.i l.self.items ≡ drop l.i l.initial.self.items;
  changed : (h : Entry → Entry) → ((e r : Entry) → goal.F-post g l.f e r → r ≡ h e) → take l.i l.self.items ≡ map h (take l.i l.initial.self.items);
}

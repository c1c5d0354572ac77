use mathlib.Core.List.{map}
use mathlib.Core.Path.{◌≡◌}
use lib.ListN.{length, take}
use Rattle.model.specs.State.{cache_bucket}
use Rattle.queue.proofs.Queue.caches.Given as goal

abbrev pub invariant-loop-i : goal.invariant-loop-i
invariant-loop-i l = record {
  places : length l.items ≡ 256;
  entries : length l.self.items ≡ 64;
  taken : take l.i l.items ≡ map cache_bucket (take l.i l.self.items);
}

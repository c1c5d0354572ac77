use Prim.Native.Nat.{ℕ, ◌+◌, ◌≤◌, ◌<◌}
use mathlib.Core.Path.{◌≡◌}
use mathlib.Core.List.{map}
use lib.ListN.{length, take, get_or}
use Rattle.once.specs.Tally.{Tallied}
use Rattle.once.proofs.tally.Given as goal

abbrev pub invariant-loop-item : goal.invariant-loop-item
invariant-loop-item g l = record {
  places : length l.counts ≡ 256;
  low : (x : ℕ) → x < 256 → get_or l.counts x 0 ≤ 1024 + l.item-index;
  told : (h : g.row.T.Denot → ℕ) → ((x : g.row.T.Denot) (c : ℕ) → goal.F-post g l.bucket x c → c ≡ h x) → Tallied l.initial.counts (map h (take l.item-index l.items)) l.counts;
}

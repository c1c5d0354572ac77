-- The struct has places for each state that the moves reach.
use Prim.Native.Nat.{ℕ, ◌≤◌, ◌<◌}
use mathlib.Core.Path.{◌≡◌}
use mathlib.Core.Bool.{false, true≢false}
use mathlib.Core.List.{List, [], ◌∷◌}
use native.Mathlib.Omega.{arith}
use lib.ListN.{length, length-append, length-drop, length-map}
use Rattle.lists.specs.Lists.{empty}
use Rattle.queue.proofs.Without.{without-length}
use Rattle.model.specs.State.{State, moved, without}
use Rattle.model.specs.Steps.{freed, taken, drop_write, take_copy}
use Rattle.model.specs.Operations.{take_write, without_oldest}
use Rattle.state.specs.View.{Bounded}

pub gc_fits : {s : State} → Bounded s → length s.gc ≤ 256
gc_fits b = omega arith

pub free_fits : {s : State} → Bounded s → length s.free ≤ 256
free_fits b = omega arith

pub not-empty : {A : Type 0} (l : List A) → empty l ≡ false → 1 ≤ length l
unfolding empty
not-empty [] h = absurd (true≢false h)
not-empty (x ∷ l) h = omega arith

module _ (s : State) (b : Bounded s) where
  pub freed_bounded : empty s.gc ≡ false → Bounded (freed s)
  unfolding freed moved
  freed_bounded h =
      let n = not-empty s.gc h in
      record {
        reads = b.reads;
        writes = b.writes;
        total = simp (length-append, length-drop) (omega arith);
        next = b.next;
      }

  pub drop-write_bounded : (k : ℕ) → Bounded (drop_write k s)
  unfolding drop_write moved
  drop-write_bounded k = record {
    reads = b.reads;
    writes = omega (arith, without-length k s.writes);
    total = rw length-append (omega (arith, without-length k s.writes));
    next = b.next;
  }

  pub oldest_bounded : empty s.reads ≡ false → Bounded (without_oldest s)
  unfolding without_oldest moved
  oldest_bounded h =
      let n = not-empty s.reads h in
      record {
        reads = simp length-drop (omega arith);
        writes = simp length-map b.writes;
        total = simp (length-append, length-drop, length-map) (omega arith);
        next = b.next;
      }

  pub take-copy_bounded : (k : ℕ) → empty s.free ≡ false → length (without k s.reads) < 64 → s.next < 18446744073709551615 → Bounded (take_copy k s)
  unfolding take_copy taken moved
  take-copy_bounded k h l n =
      let m = not-empty s.free h in
      let e = without-length k s.reads in
      record {
        reads = simp length-append (omega arith);
        writes = b.writes;
        total = simp (length-append, length-drop) (omega arith);
        next = omega arith;
      }

  pub take-write_bounded : (k : ℕ) → empty s.free ≡ false → length s.writes < 64 → s.next < 18446744073709551615 → Bounded (take_write k s)
  unfolding take_write taken moved
  take-write_bounded k h l n =
      let m = not-empty s.free h in
      record {
        reads = b.reads;
        writes = simp length-append (omega arith);
        total = simp (length-append, length-drop) (omega arith);
        next = omega arith;
      }

-- What number 5 says of the queues once it is passed.
use Prim.Native.Nat.{ℕ, ◌+◌, ◌≤◌, ◌<◌}
use mathlib.Core.Path.{◌≡◌, sym, ◌∙◌}
use mathlib.Core.Bool.{true, false}
use mathlib.Core.List.{List}
use native.Mathlib.Omega.{arith}
use lib.ListN.{length, length-append, length-map}
use borrow.Author.Tests.{eqb-true, leb-true, ltb-true, lt-ltb}
use Rattle.lists.specs.Lists.{empty, head, all}
use Rattle.lists.proofs.Tests.{every_at}
use Rattle.lists.proofs.Arrays.{all_at}
use Rattle.lists.proofs.Counts.{all_in, in_all}
use Rattle.model.specs.declared.Sizes.{Sizes}
use Rattle.model.specs.Sizes.{Device, limits, body}
use Rattle.model.specs.State.{State, caches, queued, is_below, each_once, state_fits}
use Rattle.model.proofs.Limits.{limits_of, on_chip}
use Rattle.state.specs.View.{Bounded}
use Rattle.state.proofs.Bounds.{not-empty}

pub record Queued (s : State) : Type 0 where
  pub total : length s.reads + length s.writes + length s.gc + length s.free ≡ body s.sizes
  pub below : all (is_below (body s.sizes)) (queued s) ≡ true
  pub reads : length s.reads ≤ s.sizes.r
  pub writes : length s.writes ≤ s.sizes.w
  pub next : s.next ≤ 4294967296

pub head-below : (c : ℕ) (l : List ℕ) → all (is_below c) l ≡ true → empty l ≡ false → head l < c
unfolding head is_below
head-below c l h e = ltb-true (head l) c (all_at (is_below c) l h 0 0 (not-empty l e))

-- buckets that stand in queues are buckets of the chip
pub all_on_chip : (z : Sizes) (l : List ℕ) → all (is_below (body z)) l ≡ true → all (is_below z.c) l ≡ true
unfolding is_below
all_on_chip z l h = in_all (is_below z.c) l (λ c k. lt-ltb c z.c (on_chip z c (ltb-true c (body z) (all_in (is_below (body z)) l h c k))))

module _ (s : State) where
  pub queued-length : length (queued s) ≡ length s.reads + length s.writes + length s.gc + length s.free
  unfolding queued caches
  queued-length = simp (length-append, length-map) (omega arith)

  pub queues_hold : (d : Device) → state_fits s d ≡ true → Queued s
  unfolding state_fits each_once
  queues_hold d h =
      let t = every_at _ h in
      let once = every_at _ (t 0) in
      record {
        total = sym queued-length ∙ eqb-true (length (queued s)) (body s.sizes) (once 0);
        below = once 1;
        reads = leb-true (length s.reads) s.sizes.r (t 1);
        writes = leb-true (length s.writes) s.sizes.w (t 2);
        next = leb-true s.next 4294967296 (t 11);
      }

  pub bounded : (d : Device) → state_fits s d ≡ true → limits s.sizes ≡ true → Bounded s
  bounded d fits limited =
      let q = queues_hold d fits in
      let l = limits_of s.sizes limited in
      record { reads = omega arith; writes = omega arith; total = omega arith; next = omega arith }

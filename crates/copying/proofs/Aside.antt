-- The room is none of the buckets that a back-end bucket has.
use Prim.Native.Nat.{ℕ, ◌+◌, ◌≤◌, ◌<◌}
use mathlib.Core.Path.{◌≡◌, refl}
use mathlib.Core.Bool.{true, false}
use mathlib.Core.Logic.{◌⊎◌, inl, inr, ◌≢◌}
use native.Mathlib.Omega.{arith}
use native.Mathlib.Decide.{dec_lt}
use lib.Dec.{ltb}
use borrow.Author.Tests.{lt-ltb, le-ltb, not-true}
use Rattle.std.specs.Prelude.{if◌then◌else◌}
use Rattle.lists.specs.Lists.{empty, member, times}
use Rattle.lists.proofs.Tests.{every_at, true_or_false}
use Rattle.lists.proofs.Counts.{head_in, empty-length, times-member}
use Rattle.model.specs.Sizes.{Device, body}
use Rattle.model.specs.State.{State, holds, cache_of, caches_of, caches, queued, state_fits}
use Rattle.model.proofs.Queues.{maps_times, times_left}
use Rattle.model.proofs.Inside.{places, places_queued}
use Rattle.model.proofs.InsideLive.{once_of}
use Rattle.steps.specs.Ready.{Ready}
use Rattle.copying.specs.Fresh.{room_of, Single}

-- number 5 says it
pub fits_single : (s : State) (d : Device) → state_fits s d ≡ true → Single s
unfolding state_fits
fits_single s d h c = go (dec_lt c (body s.sizes))
  where
    once : places s c ≡ (if ltb c (body s.sizes) then 1 else 0)
    once = once_of (body s.sizes) s (every_at _ h 0) c

    go : Dec (c < body s.sizes) → times c (queued s) ≤ 1
    go (yes u) = let e : places s c ≡ 1 = rw (lt-ltb c (body s.sizes) u) at once in omega (arith, places_queued s c, e)
    go (no u) = let e : places s c ≡ 0 = rw (le-ltb c (body s.sizes) (omega arith)) at once in omega (arith, places_queued s c, e)

module _ (s : State) (ready : Ready s) (single : Single s) where
  room_stands : 1 ≤ times (room_of s).bucket s.gc + times (room_of s).bucket s.free
  unfolding room_of
  room_stands = go (true_or_false (empty s.free)) (true_or_false (empty s.gc))
    where
      go : (empty s.free ≡ true) ⊎ (empty s.free ≡ false) → (empty s.gc ≡ true) ⊎ (empty s.gc ≡ false)
          → 1 ≤ times (room_of s).bucket s.gc + times (room_of s).bucket s.free
      go (inr e) g = rw e (omega (arith, head_in s.free e))
      go (inl e) (inr g) = rw e (omega (arith, head_in s.gc g))
      go (inl e) (inl g) = absurd (omega (arith, ready.some, empty-length s.free e, empty-length s.gc g))

  no_queued : (c : ℕ) → 1 ≤ times c (caches s.reads) + times c (caches s.writes) → c ≢ (room_of s).bucket
  no_queued c t e = omega (arith, single (room_of s).bucket, places_queued s (room_of s).bucket, room_stands, rw e at t)

  module _ (b : ℕ) where
    pub no_read : holds b s.reads ≡ true → cache_of b s.reads ≢ (room_of s).bucket
    no_read h = no_queued (cache_of b s.reads) (omega (arith, maps_times s.reads b (cache_of b s.reads) (record { held = h; is = refl })))

    pub no_write : (c : ℕ) → 1 ≤ times c (caches_of b s.writes) → c ≢ (room_of s).bucket
    no_write c t = no_queued c (omega (arith, times_left s.writes b c))

    pub not_listed : member (room_of s).bucket (caches_of b s.writes) ≡ false
    not_listed =
        not-true (member (room_of s).bucket (caches_of b s.writes))
        (times-member (room_of s).bucket (caches_of b s.writes)
        (omega (arith, single (room_of s).bucket, places_queued s (room_of s).bucket, room_stands, times_left s.writes b (room_of s).bucket)))

-- The state once the least recent read bucket has given way: the read queue has a place, and Allocate finds a bucket.
use Prim.Native.Nat.{ℕ, ◌≤◌, ◌<◌}
use mathlib.Core.Path.{◌≡◌, refl, ◌∙◌}
use mathlib.Core.Bool.{true, false}
use mathlib.Core.Logic.{⊎_elim}
use mathlib.Core.List.{List, [], ◌∷◌}
use native.Mathlib.Omega.{arith}
use lib.ListN.{length, drop, get_or, length-append, length-drop, length-map, get_or-map}
use lib.Dec.{ltb}
use borrow.Author.Tests.{ltb-true, ltb-false, ne_eqb}
use Rattle.lists.specs.Lists.{all, empty}
use Rattle.lists.proofs.Tests.{true_or_false, and_right}
use Rattle.lists.proofs.Arrays.{all_at, empty-length}
use Rattle.model.specs.declared.Sizes.{Sizes}
use Rattle.model.specs.declared.Entry.{Entry}
use Rattle.model.specs.Sizes.{Device, body}
use Rattle.model.specs.Stores.{bucket_bytes, unit_stores}
use Rattle.model.specs.Image.{is_dirty}
use Rattle.model.specs.State.{State, moved, entry, is_below, cache_bucket, caches, remarked}
use Rattle.model.specs.Steps.{nothing}
use Rattle.model.specs.Operations.{drop_oldest, without_oldest}
use Rattle.queue.specs.View.{no_entry}
use Rattle.state.proofs.Bounds.{oldest_bounded}
use Rattle.meter.specs.Run.{Run, run_all}
use Rattle.steps.specs.Turns.{after}
use Rattle.steps.specs.Ready.{Ready}
use Rattle.steps.proofs.Inside.{both_inside, one_inside}
use Rattle.oldest.specs.Drops.{Drops}
use Rattle.model.proofs.QueuesGrown.{caches-map}
use Rattle.model.proofs.Marks.{keeps_remarked}

-- t is s with a place in the read queue
pub record Dropped (s t : State) : Type 0 where
  pub ready : Ready t
  pub sizes : t.sizes ≡ s.sizes
  pub next : t.next ≡ s.next
  pub fewer : length t.reads < s.sizes.r

-- Allocate finds a bucket beside a read and a write queue that are not too long
pub drops_ready : {s : State} → Drops s → Ready s
drops_ready o = record { orderly = o.orderly; some = omega (arith, o.total, o.reads, o.writes, o.orderly.limits.room) }

rest_inside : (c : ℕ) (l : List Entry) → all (is_below c) (caches l) ≡ true → all (is_below c) (caches (drop 1 l)) ≡ true
unfolding all caches cache_bucket
rest_inside c [] h = h
rest_inside c (e ∷ l) h = and_right (is_below c e.cache) (all (is_below c) (caches l)) h

module _ (s : State) (o : Drops s) where
  module _ (full : s.sizes.r ≤ length s.reads) where
    pub some_read : 1 ≤ length s.reads
    some_read = omega (arith, o.orderly.limits.r_low)

    pub not_none : empty s.reads ≡ false
    not_none = empty-length s.reads ∙ ne_eqb (length s.reads) 0 (λ e. omega (arith, some_read))

    -- the least recent read bucket is on the chip
    pub oldest_below : (get_or s.reads 0 no_entry).cache < body s.sizes
    unfolding caches cache_bucket is_below
    oldest_below =
        let n : 0 < length (caches s.reads) = simp length-map (omega (arith, some_read)) in
        let e : get_or (caches s.reads) 0 no_entry.cache ≡ (get_or s.reads 0 no_entry).cache = get_or-map cache_bucket s.reads 0 no_entry in
        rw e at (ltb-true (get_or (caches s.reads) 0 0) (body s.sizes) (all_at (is_below (body s.sizes)) (caches s.reads) o.orderly.reads 0 0 n))

    full_dropped : Dropped s (without_oldest s)
    unfolding without_oldest moved entry
    full_dropped =
        let c = body s.sizes in
        let bounded = oldest_bounded s o.orderly.bounded not_none in
        record {
          ready = record {
            orderly = record {
              limits = o.orderly.limits;
              bounded = bounded;
              reads = rest_inside c s.reads o.orderly.reads;
              writes = rw (caches-map (remarked (get_or s.reads 0 no_entry).back false) (keeps_remarked (get_or s.reads 0 no_entry).back false) s.writes) o.orderly.writes;
              gc = both_inside c s.gc ((get_or s.reads 0 no_entry).cache ∷ []) o.orderly.gc (one_inside c (get_or s.reads 0 no_entry).cache oldest_below);
              free = o.orderly.free;
            };
            some = simp length-append (omega arith);
          };
          sizes = refl;
          next = refl;
          fewer = simp length-drop (omega (arith, some_read, o.reads));
        }

  room_dropped : length s.reads < s.sizes.r → Dropped s s
  room_dropped h = record { ready = drops_ready o; sizes = refl; next = refl; fewer = h }

  pub dropped : (d : Device) → Dropped s (drop_oldest s.sizes s d).state
  unfolding drop_oldest nothing
  dropped d =
      ⊎_elim
      (λ e. rw e (room_dropped (ltb-true (length s.reads) s.sizes.r e)))
      (λ e. rw e (full_dropped (ltb-false (length s.reads) s.sizes.r e)))
      (true_or_false (ltb (length s.reads) s.sizes.r))

-- ---- the step itself

module _ (z : Sizes) (s : State) (r : Run) where
  abbrev oldest : Entry
  oldest = get_or s.reads 0 no_entry

  pub drop-none : ltb (length s.reads) z.r ≡ true → record { run = r; state = s } ≡ after z (drop_oldest z) s r
  unfolding after drop_oldest nothing run_all
  drop-none h = rw h

  module _ (full : ltb (length s.reads) z.r ≡ false) where
    pub drop_dirty : is_dirty z r.device oldest.cache ≡ true
        → record { run = run_all z (unit_stores z oldest.back (bucket_bytes z r.device oldest.cache)) r; state = without_oldest s } ≡ after z (drop_oldest z) s r
    unfolding after drop_oldest entry
    drop_dirty h = rw (full, h)

    pub drop_clean : is_dirty z r.device oldest.cache ≡ false → record { run = r; state = without_oldest s } ≡ after z (drop_oldest z) s r
    unfolding after drop_oldest entry run_all
    drop_clean h = rw (full, h)

-- A read bucket that gives way to a copy of b leaves the bytes of b as they were, and each cache bucket once in the queues.
use Prim.Native.Nat.{ℕ, ◌+◌, ◌≤◌}
use mathlib.Core.Path.{◌≡◌, refl, sym, ap, ◌∙◌}
use mathlib.Core.Bool.{Bool, true, false, true≢false}
use mathlib.Core.Logic.{◌⊎◌, inl, inr, ◌≢◌}
use mathlib.Core.List.{List, [], ◌∷◌}
use native.Mathlib.Omega.{arith}
use lib.ListN.{length, drop, get_or}
use lib.Dec.{ltb}
use borrow.Author.Tests.{ltb-false, eq-eqb}
use Rattle.std.specs.Prelude.{if◌then◌else◌}
use Rattle.lists.specs.Lists.{times}
use Rattle.lists.proofs.Tests.{true_or_false}
use Rattle.lists.proofs.Counts.{times_cons, times_append}
use Rattle.model.specs.declared.Sizes.{Sizes}
use Rattle.model.specs.declared.Entry.{Entry}
use Rattle.model.specs.Sizes.{Device}
use Rattle.model.specs.Stores.{tag_of, bucket_bytes, disk_bytes, unit_stores}
use Rattle.model.specs.Image.{is_dirty, merge}
use Rattle.model.specs.State.{State, moved, entry, is_of, holds, cache_of, caches, cache_bucket, remarked}
use Rattle.model.specs.Steps.{nothing, base_bytes, merged}
use Rattle.model.specs.Operations.{drop_oldest, without_oldest, make_place}
use Rattle.model.proofs.Limits.{on_chip}
use Rattle.model.proofs.Frames.{Lengths, length_bucket}
use Rattle.model.proofs.Show.{Same}
use Rattle.model.proofs.Inside.{places_queued}
use Rattle.model.proofs.QueuesGrown.{caches-map, holds-map, cache_of-map}
use Rattle.model.proofs.Marks.{keeps_remarked}
use Rattle.queue.specs.View.{no_entry}
use Rattle.meter.specs.Run.{Run, run_all}
use Rattle.units.proofs.Kept.{Kept, units_kept}
use Rattle.copying.specs.Fresh.{Single}
use Rattle.copying.proofs.Unmoved.{merge-same}
use Rattle.oldest.specs.Drops.{Drops}
use Rattle.oldest.proofs.Dropped.{some_read, oldest_below}

-- a queue holds the back-end bucket of its first entry
pub holds_first : (l : List Entry) → 1 ≤ length l → holds (get_or l 0 no_entry).back l ≡ true
unfolding holds is_of
holds_first [] h = absurd (omega arith)
holds_first (e ∷ l) h = rw (eq-eqb e.back e.back refl)

-- and none that the whole does not once it is shorter
holds-rest : (b : ℕ) (l : List Entry) → holds b l ≡ false → holds b (drop 1 l) ≡ false
unfolding holds
holds-rest b [] h = h
holds-rest b (e ∷ l) h = go (is_of b e) h
  where
    go : (t : Bool) → (if t then true else holds b l) ≡ false → holds b l ≡ false
    go true q = absurd (true≢false q)
    go false q = q

times_first : (c : ℕ) (l : List Entry) → 1 ≤ length l → times c (caches l) ≡ times c ((get_or l 0 no_entry).cache ∷ []) + times c (caches (drop 1 l))
unfolding caches cache_bucket
times_first c [] h = absurd (omega arith)
times_first c (e ∷ l) h = times_cons c e.cache (caches l)

-- a bucket on two devices with one chip
same-chip : (z : Sizes) (d e : Device) → e.flash ≡ d.flash → e.spare ≡ d.spare → (c : ℕ) → Same z d e c
unfolding tag_of bucket_bytes
same-chip z d e flash spare c = record { tags-same = λ k h. rw spare; bytes_same = rw flash }

-- t and e are s and d with a place in the read queue for a copy of b
pub record Stays (s t : State) (b : ℕ) (d e : Device) : Type 0 where
  pub single : Single t
  pub spare : e.spare ≡ d.spare
  pub bytes : merged s.sizes t e b ≡ merged s.sizes s d b

module _ (s : State) (o : Drops s) (single : Single s) (b : ℕ) where
  abbrev oldest : Entry
  oldest = get_or s.reads 0 no_entry

  abbrev z : Sizes
  z = s.sizes

  as_it_was : (d : Device) → Stays s s b d d
  as_it_was d = record { single = single; spare = refl; bytes = refl }

  module _ (none : holds b s.reads ≡ false) (full : z.r ≤ length s.reads) where
    some : 1 ≤ length s.reads
    some = some_read s o full

    other : b ≢ oldest.back
    other q = true≢false (sym (holds_first s.reads some) ∙ (ap (λ (x : ℕ). holds x s.reads) (sym q) ∙ none))

    fewer_single : Single (without_oldest s)
    unfolding without_oldest moved entry
    fewer_single c =
        omega (
          arith,
          single c,
          places_queued s c,
          places_queued (without_oldest s) c,
          times_first c s.reads some,
          times_append c s.gc (oldest.cache ∷ []),
          ap (times c) (caches-map (remarked oldest.back false) (keeps_remarked oldest.back false) s.writes),
        )

    fewer_bytes : (d e : Device) → Kept z oldest.back d e → merged z (without_oldest s) e b ≡ merged z s d b
    unfolding merged base_bytes without_oldest moved entry
    fewer_bytes d e kept =
        rw (
          holds-map (remarked oldest.back false) (keeps_remarked oldest.back false) s.writes b,
          cache_of-map (remarked oldest.back false) (keeps_remarked oldest.back false) s.writes b,
          holds-rest b s.reads none,
          none,
          kept.others b other,
        )
        (go (holds b s.writes))
      where
        go : (t : Bool)
            → (if t then merge z e (cache_of b s.writes) (disk_bytes z d b) else disk_bytes z d b) ≡ (if t then merge z d (cache_of b s.writes) (disk_bytes z d b) else disk_bytes z d b)
        go true = merge-same z o.orderly.limits.p_low d e (cache_of b s.writes) (same-chip z d e kept.flash kept.spare (cache_of b s.writes)) (disk_bytes z d b)
        go false = refl

    fewer : (d e : Device) → Kept z oldest.back d e → Stays s (without_oldest s) b d e
    fewer d e kept = record { single = fewer_single; spare = kept.spare; bytes = fewer_bytes d e kept }

    -- its units written, if it is Dirty
    oldest_kept : (r : Run) → Lengths z r.device
        → Kept z oldest.back r.device (run_all z (if is_dirty z r.device oldest.cache then unit_stores z oldest.back (bucket_bytes z r.device oldest.cache) else []) r).device
    unfolding run_all
    oldest_kept r lens = go (is_dirty z r.device oldest.cache)
      where
        go : (t : Bool) → Kept z oldest.back r.device (run_all z (if t then unit_stores z oldest.back (bucket_bytes z r.device oldest.cache) else []) r).device
        go true = units_kept z oldest.back (bucket_bytes z r.device oldest.cache) (o.back some) (length_bucket z r.device lens oldest.cache (on_chip z oldest.cache (oldest_below s o full))) r lens
        go false = record { lengths = lens; flash = refl; spare = refl; others = λ x ne. refl }

  pub place_stays : (r : Run) → Lengths z r.device → Stays s (make_place z b s r.device).state b r.device (run_all z (make_place z b s r.device).stores r).device
  unfolding make_place drop_oldest nothing run_all entry
  place_stays r lens = go (true_or_false (holds b s.reads)) (true_or_false (ltb (length s.reads) z.r))
    where
      go : (holds b s.reads ≡ true) ⊎ (holds b s.reads ≡ false) → (ltb (length s.reads) z.r ≡ true) ⊎ (ltb (length s.reads) z.r ≡ false)
          → Stays s (make_place z b s r.device).state b r.device (run_all z (make_place z b s r.device).stores r).device
      go (inl h) g = rw h (as_it_was r.device)
      go (inr n) (inl room) = rw (n, room) (as_it_was r.device)
      go (inr n) (inr full) =
          let q : z.r ≤ length s.reads = ltb-false (length s.reads) z.r full in
          rw (n, full) (fewer n q r.device _ (oldest_kept n q r lens))

-- The invariant inside a call: what holds of state, chip and disk between any two steps.
use Prim.Native.Nat.{ℕ, ◌+◌, ◌*◌, ◌≤◌, ◌<◌}
use mathlib.Core.Path.{◌≡◌, refl, sym, ◌∙◌}
use mathlib.Core.Bool.{Bool, true, false, true≢false}
use mathlib.Core.Option.{some}
use mathlib.Core.List.{List, ◌++◌, map}
use native.Mathlib.Omega.{arith}
use native.Mathlib.Decide.{dec_lt}
use lib.ListN.{length}
use lib.Dec.{ltb}
use borrow.Author.Tests.{lt-ltb, ltb-true}
use Rattle.std.specs.Prelude.{if◌then◌else◌}
use Rattle.lists.specs.Lists.{times}
use Rattle.lists.proofs.Counts.{times_append}
use Rattle.model.specs.declared.Sizes.{Sizes}
use Rattle.model.specs.Sizes.{Device, bucket_size, body}
use Rattle.model.specs.Stores.{erase}
use Rattle.model.specs.Image.{epoch_of, back_of, is_write, complete}
use Rattle.model.specs.State.{State, caches, queued}
use Rattle.model.proofs.Limits.{on_chip}
use Rattle.model.proofs.Safe.{gives_of, holds_of, found, Safe, Chip, Sound, Ready, Marks}
use Rattle.model.proofs.Frames.{Lengths, lengths_of}
use Rattle.model.proofs.Show.{Same, back_of-same, holds_same}
use Rattle.model.proofs.Prefix.{along_start, along_end}
use Rattle.model.proofs.FormedKept.{chip_formed}
use Rattle.model.proofs.Buckets.{blank_no_write, blank_no_copy, gives_write, holds_parts, copy_or_write}
use Rattle.model.proofs.BucketKinds.{complete-copy, copy-used, write-used, back_below}
use Rattle.model.proofs.Queues.{Maps, times_maps, maps_times}
use Rattle.model.proofs.QueuesShown.{Reads, Writes}
use Rattle.model.proofs.QueuesErased.{gone, Below, gone_lengths, gone_same, gone_blank}
use Rattle.model.proofs.Heads.{Blank}
use Rattle.model.proofs.LedgerKept.{Ledger}

-- how often the cache bucket c stands in the queues
abbrev pub places : State → ℕ → ℕ
places s c = times c (caches s.reads) + times c (caches s.writes) + times c s.gc + times c s.free

pub places_queued : (s : State) (c : ℕ) → times c (queued s) ≡ places s c
unfolding queued
places_queued s c =
    omega (arith, times_append c (caches s.reads) (caches s.writes ++ (s.gc ++ s.free)), times_append c (caches s.writes) (s.gc ++ s.free), times_append c s.gc s.free)

module _ (z : Sizes) where
  -- number 5 at z, what recovery asks of the chip, and that the GC queue may be erased at any time
  pub record Inside (plain : List ℕ) (s : State) (d : Device) : Type 0 where
    pub sizes_are : s.sizes ≡ z
    pub plain-length : length plain ≡ z.b * bucket_size z
    pub chip : Chip z d
    pub ledger : Ledger z d s.next
    pub ready : Ready z plain s.gc d
    pub once : (c : ℕ) → places s c ≡ (if ltb c (body z) then 1 else 0)
    pub reads : Reads z d s.reads
    pub writes : Writes z d s.writes
    pub marks : Marks z plain d s.reads s.writes
    pub few_reads : length s.reads ≤ z.r
    pub few_writes : length s.writes ≤ z.w
    pub free_blank : (c : ℕ) → 1 ≤ times c s.free → Blank z d c
    pub accepted_low : s.accepted ≤ 15
    pub next_above : (c : ℕ) → c < body z → epoch_of z d c < s.next
    pub next_low : 1 ≤ s.next
    pub next_high : s.next ≤ 4294967296

  module _ (plain : List ℕ) (s : State) (d : Device) (j : Inside plain s d) where
    pub lens : Lengths z d
    lens = lengths_of z d j.chip.lens

    pub safe : Safe z plain d
    safe = along_start z (Safe z plain) d (map erase s.gc) j.ready

    pub sound : Sound z plain d
    sound = record { chip = j.chip; safe = safe }

    -- ---- each cache bucket once

    pub in_chip : (c : ℕ) → 1 ≤ places s c → c < body z
    in_chip c h = go (ltb c (body z)) refl (j.once c)
      where
        go : (t : Bool) → ltb c (body z) ≡ t → places s c ≡ (if ltb c (body z) then 1 else 0) → c < body z
        go true e o = ltb-true c (body z) e
        go false e o = let o' : places s c ≡ 0 = o ∙ rw e in absurd (omega arith)

    pub one_place : (c : ℕ) → places s c ≤ 1
    one_place c = go (ltb c (body z)) (j.once c)
      where
        go : (t : Bool) → places s c ≡ (if t then 1 else 0) → places s c ≤ 1
        go true o = omega arith
        go false o = omega arith

    pub a_place : (c : ℕ) → c < body z → places s c ≡ 1
    a_place c h = j.once c ∙ rw (lt-ltb c (body z) h)

    -- ---- the chip with the GC queue erased

    pub gc_below : Below z s.gc
    gc_below g h = on_chip z g (in_chip g (omega arith))

    pub swept-lengths : Lengths z (gone z d s.gc)
    swept-lengths = gone_lengths z s.gc gc_below d lens

    pub swept_safe : Safe z plain (gone z d s.gc)
    swept_safe = along_end z (Safe z plain) d (map erase s.gc) j.ready

    pub swept_same : (c : ℕ) → times c s.gc ≡ 0 → Same z d (gone z d s.gc) c
    swept_same c t = gone_same z s.gc gc_below d lens c t

    pub read_same : (b c : ℕ) → Maps s.reads b c → Same z d (gone z d s.gc) c
    read_same b c m = swept_same c (omega (arith, one_place c, maps_times s.reads b c m))

    pub write_same : (b c : ℕ) → Maps s.writes b c → Same z d (gone z d s.gc) c
    write_same b c m = swept_same c (omega (arith, one_place c, maps_times s.writes b c m))

    -- a bucket that is not blank there stands in the read queue or in the write queue
    pub data Where (c : ℕ) : Type 0 where
      in_reads : (b : ℕ) → Maps s.reads b c → Where c
      in_writes : (b : ℕ) → Maps s.writes b c → Where c
      nowhere : Blank z (gone z d s.gc) c → Where c

    module _ (p_pos : 1 ≤ z.p) where
      pub look : (c : ℕ) → c < body z → Where c
      look c hc = go (dec_lt 0 (times c s.gc)) (dec_lt 0 (times c (caches s.reads))) (dec_lt 0 (times c (caches s.writes)))
        where
          go : Dec (0 < times c s.gc) → Dec (0 < times c (caches s.reads)) → Dec (0 < times c (caches s.writes)) → Where c
          go (yes u) v w = nowhere (gone_blank z s.gc gc_below d lens c u)
          go (no u) (yes v) w = let r = times_maps s.reads j.reads.read_once c v in in_reads r.0 r.1
          go (no u) (no v) (yes w) = let r = times_maps s.writes j.writes.write_once c w in in_writes r.0 r.1
          go (no u) (no v) (no w) = nowhere (λ k hk. (swept_same c (omega arith)).tags-same k hk ∙ j.free_blank c (omega (arith, a_place c hc)) k hk)

      pub who_gives : (c b i x : ℕ) → gives_of z (gone z d s.gc) c b i ≡ some x → Maps s.writes b c
      who_gives c b i x e = go (gives_write z (gone z d s.gc) c b i x e)
        where
          go : (c < body z) × (is_write z (gone z d s.gc) c ≡ true) × (back_of z (gone z d s.gc) c ≡ b) × (found z (gone z d s.gc) c z.p i ≡ some x) → Maps s.writes b c
          go t = pick (look c t.0)
            where
              pick : Where c → Maps s.writes b c
              pick (nowhere q) = absurd (true≢false (sym t.1 ∙ blank_no_write z (gone z d s.gc) c p_pos q))
              pick (in_reads b' m) =
                  let h = holds_same z p_pos d (gone z d s.gc) c (read_same b' c m) b' ∙ j.reads.copies b' c m in
                  absurd (true≢false (sym (holds_parts z (gone z d s.gc) c b' h).1 ∙ copy_or_write z (gone z d s.gc) c t.1))
              pick (in_writes b' m) =
                  let q : b' ≡ b = sym (j.writes.logs b' c m).1 ∙ (sym (back_of-same z p_pos d (gone z d s.gc) c (write_same b' c m)) ∙ t.2) in
                  rw (← q) m

      pub who_holds : (c b : ℕ) → holds_of z (gone z d s.gc) c b ≡ true → Maps s.reads b c
      who_holds c b e = go (holds_parts z (gone z d s.gc) c b e)
        where
          go : (c < body z) × (complete z (gone z d s.gc) c ≡ true) × (back_of z (gone z d s.gc) c ≡ b) → Maps s.reads b c
          go t = pick (look c t.0)
            where
              pick : Where c → Maps s.reads b c
              pick (nowhere q) = absurd (true≢false (sym t.1 ∙ blank_no_copy z (gone z d s.gc) c p_pos q))
              pick (in_reads b' m) =
                  let h = holds_parts z d c b' (j.reads.copies b' c m) in
                  let q : b' ≡ b = sym h.2 ∙ (sym (back_of-same z p_pos d (gone z d s.gc) c (read_same b' c m)) ∙ t.2) in
                  rw (← q) m
              pick (in_writes b' m) =
                  let h = sym (holds_same z p_pos d (gone z d s.gc) c (write_same b' c m) b) ∙ e in
                  absurd (true≢false (sym (holds_parts z d c b h).1 ∙ copy_or_write z d c (j.writes.logs b' c m).0))

      -- ---- their back-end buckets are on the disk

      pub read_back : (b c : ℕ) → Maps s.reads b c → b < z.b
      read_back b c m =
          let h = holds_parts z d c b (j.reads.copies b c m) in
          rw (← h.2) (back_below z d (chip_formed z j.chip) p_pos c h.0 (copy-used z d c (complete-copy z d c h.1)))

      pub write-back : (b c : ℕ) → Maps s.writes b c → b < z.b
      write-back b c m =
          let h = j.writes.logs b c m in
          rw (← h.1) (back_below z d (chip_formed z j.chip) p_pos c (in_chip c (omega (arith, maps_times s.writes b c m))) (write-used z d c h.0))

-- Drain: its stores, the state that it leaves, what it owes, and the disk by itself.
use Prim.Native.Nat.{ℕ, ◌+◌, ◌*◌, ◌/◌, ◌%◌, ◌≤◌, ◌<◌}
use mathlib.Core.Path.{◌≡◌, refl, sym, ap, ◌∙◌, subst}
use mathlib.Core.Logic.{◌⊎◌, inl, inr}
use mathlib.Core.Bool.{true, false, not, ◌&&◌, true≢false}
use mathlib.Core.List.{List, [], append-nil}
use native.Mathlib.Omega.{arith}
use native.Mathlib.Nat.{mul-pos, div-add-mod', mod-lt}
use lib.ListN.{get_or}
use lib.Seq.{ext_get_or}
use Rattle.lists.specs.Lists.{below, keep, times}
use Rattle.lists.proofs.Tests.{true_or_false, and_left, or_cases}
use Rattle.lists.proofs.Parts.{get_d_part}
use Rattle.lists.proofs.Counts.{times_append}
use Rattle.lists.proofs.Orders.{kept_below, below_kept}
use Rattle.model.specs.declared.Sizes.{Sizes}
use Rattle.model.specs.Sizes.{Device, limits, bucket_size}
use Rattle.model.specs.Stores.{apply_all, disk_bytes}
use Rattle.model.specs.Image.{is_dirty}
use Rattle.model.specs.State.{State, moved, holds, cache_of, is_marked, caches, record_of, entry}
use Rattle.model.specs.Steps.{merged}
use Rattle.model.specs.Operations.{unclean, drain_stores, is_unclean, is_clean, drained, drain}
use Rattle.model.specs.Calls.{drain_call, tests, running_tests, refusal, plan_of}
use Rattle.model.specs.Promise.{feed}
use Rattle.model.proofs.Views.{Lay, top, bare, SafeAt, copied, uncopied}
use Rattle.model.proofs.Safe.{view, plain_at, Safe, Sound, Along}
use Rattle.model.proofs.Invariant.{Inv, Pays}
use Rattle.model.proofs.Frames.{Lengths}
use Rattle.model.proofs.Limits.{Limits, limits_of}
use Rattle.model.proofs.Formed.{Formed}
use Rattle.model.proofs.FormedKept.{chip_formed}
use Rattle.model.proofs.Buckets.{holds_parts}
use Rattle.model.proofs.BucketKinds.{back_below, complete-copy, copy-used, write-used}
use Rattle.model.proofs.Show.{same_refl, is_dirty-same}
use Rattle.model.proofs.Units.{plain_bytes}
use Rattle.model.proofs.UnitRuns.{MayWrite, Ran, runs_harmless, units_run}
use Rattle.model.proofs.Queues.{Maps, absent, maps_times}
use Rattle.model.proofs.QueuesErased.{gone, gone_disk}
use Rattle.model.proofs.QueuesMerged.{length_merged, merged-plain}
use Rattle.model.proofs.FindableRuns.{Each, Harmless, ledger_runs, along_cuts}
use Rattle.model.proofs.Inside.{Inside, lens, in_chip, gc_below, swept_safe, read_same, who_gives, who_holds}
use Rattle.model.proofs.InsideLive.{inside}
use Rattle.model.proofs.Steps.{Good}
use Rattle.model.proofs.StepsDrop.{same_inside}
use Rattle.model.proofs.Format.{no_writes}
use Rattle.model.proofs.Calling.{running_passed, pays_good}
use Rattle.model.proofs.DrainQueues.{times_selected, length_selected, reads_selected}
use Rattle.model.proofs.DrainErase.{clean_unwritten, clean_read, times-drained, ready_drained}

module _ (z : Sizes) (B : Limits z) (plain : List ℕ) (s : State) (d : Device) (j : Inside z plain s d) where
  s_pos : 1 ≤ z.s
  s_pos = omega (arith, B.s_low)

  -- ---- its stores

  flushes : List ℕ
  flushes = keep (unclean z d s) (below z.b)

  may_write : (b : ℕ) → 1 ≤ times b flushes → MayWrite z B plain s.gc (gc_below z plain s d j) (merged z s d) d b
  unfolding flushes
  may_write b t =
      let hb = (kept_below (unclean z d s) b z.b t).1 in
      record {
        place = hb;
        size = length_merged z B.p_low s_pos plain s d j b hb;
        allowed = λ e same. plain_bytes (λ i hi. merged-plain z B.p_low s_pos plain s d j b hb i);
      }

  abbrev after : Device
  after = apply_all z d (drain z s d).stores

  run : Along z (Sound z plain) d (drain z s d).stores × Ran z B plain s.gc (gc_below z plain s d j) (merged z s d) flushes d after
  unfolding drain drain_stores flushes
  run = units_run z B plain s.gc (gc_below z plain s d j) (merged z s d) d flushes may_write d (same_refl z d) j.chip j.ready

  harmless : Each (Harmless z d) (drain z s d).stores
  unfolding drain drain_stores flushes
  harmless = runs_harmless z B plain s.gc (gc_below z plain s d j) (merged z s d) d flushes may_write d

  stored : Inside z plain s after
  stored = same_inside z B.p_low plain s d after j run.1.chip
      (ledger_runs z B.p_low (drain z s d).stores d s.next (lens z plain s d j) harmless j.ledger) run.1.ready run.1.still

  unclean-below : (b : ℕ) → unclean z d s b ≡ true → b < z.b
  unfolding unclean
  unclean-below b u = go (or_cases (holds b s.writes) (holds b s.reads && is_dirty z d (cache_of b s.reads)) u)
    where
      F : Formed z d
      F = chip_formed z j.chip

      go : (holds b s.writes ≡ true) ⊎ (holds b s.reads && is_dirty z d (cache_of b s.reads) ≡ true) → b < z.b
      go (inl h) =
          let w = cache_of b s.writes in
          let m : Maps s.writes b w = record { held = h; is = refl } in
          let k = j.writes.logs b w m in
          rw (← k.1) (back_below z d F B.p_low w (in_chip z plain s d j w (omega (arith, maps_times s.writes b w m))) (write-used z d w k.0))
      go (inr h) =
          let c = cache_of b s.reads in
          let k = holds_parts z d c b (j.reads.copies b c (record { held = and_left (holds b s.reads) _ h; is = refl })) in
          rw (← k.2) (back_below z d F B.p_low c k.0 (copy-used z d c (complete-copy z d c k.1)))

  flushed_disk : (b : ℕ) → unclean z d s b ≡ true → (i : ℕ) → get_or (disk_bytes z after b) i 0 ≡ plain_at z plain b i
  unfolding flushes
  flushed_disk b u i =
      let hb = unclean-below b u in
      ap (λ (l : List ℕ). get_or l i 0) (run.1.disk_is b (omega (arith, below_kept (unclean z d s) b z.b hb u))) ∙ merged-plain z B.p_low s_pos plain s d j b hb i

  -- ---- its state

  inside_drained : Inside z plain (drain z s d).state after
  unfolding drain moved caches times is_marked record_of entry is_clean is_unclean
  inside_drained = record {
    sizes_are = j.sizes_are;
    plain-length = j.plain-length;
    chip = run.1.chip;
    ledger = stored.ledger;
    ready = ready_drained z d s B.p_low plain after stored flushed_disk;
    once = λ c. omega (arith, times_selected (unclean z d s) s.reads c, times_append c s.gc (drained z d s), times-drained z d s B.p_low plain after stored c) ∙ j.once c;
    reads = reads_selected (λ b. not (unclean z d s b)) z after s.reads stored.reads;
    writes = no_writes z after;
    marks = λ b h. absurd (true≢false (sym h));
    few_reads = omega (arith, length_selected (λ b. not (unclean z d s b)) s.reads, j.few_reads);
    few_writes = omega arith;
    free_blank = stored.free_blank;
    accepted_low = j.accepted_low;
    next_above = stored.next_above;
    next_low = j.next_low;
    next_high = j.next_high;
  }

  pub drain_good : Good z plain (drain z s d) d
  drain_good = (along_cuts z B.p_low plain (drain z s d).stores d s.next j.next_high harmless j.ledger run.0, inside_drained)

  -- ---- the disk by itself

  abbrev swept : Device
  swept = gone z after s.gc

  clean_disk : (b : ℕ) → unclean z d s b ≡ false → (i : ℕ) → get_or (disk_bytes z after b) i 0 ≡ plain_at z plain b i
  unfolding Safe
  clean_disk b u i = sym (ap (λ (l : List ℕ). get_or l i 0) (gone_disk z s.gc (gc_below z plain s after stored) after (lens z plain s after stored) b)) ∙ bytes (lay (swept_safe z plain s after stored b))
    where
      lay : SafeAt (view z swept) b (plain_at z plain b) → Lay (view z swept) b (λ x. get_or (disk_bytes z swept b) x 0) i (plain_at z plain b i)
      lay (uncopied n l) = l i
      lay (copied c n l clean) =
          let m = who_holds z plain s after stored B.p_low c b n.0 in
          clean (is_dirty-same z B.p_low after swept c (read_same z plain s after stored b c m) ∙ is_dirty-same z B.p_low d after c (run.1.still c) ∙ clean_read z d s b c u m) i

      bytes : Lay (view z swept) b (λ x. get_or (disk_bytes z swept b) x 0) i (plain_at z plain b i) → get_or (disk_bytes z swept b) i 0 ≡ plain_at z plain b i
      bytes (bare n e) = e
      bytes (top c e n) = absurd (absent (clean_unwritten z d s b u) (who_gives z plain s after stored B.p_low c b i (plain_at z plain b i) e))

  whole_disk : (b i : ℕ) → get_or (disk_bytes z after b) i 0 ≡ plain_at z plain b i
  whole_disk b i = go (true_or_false (unclean z d s b))
    where
      go : (unclean z d s b ≡ true) ⊎ (unclean z d s b ≡ false) → get_or (disk_bytes z after b) i 0 ≡ plain_at z plain b i
      go (inl u) = flushed_disk b u i
      go (inr u) = clean_disk b u i

  pub drained_disk : (apply_all z d (drain z s d).stores).disk ≡ plain
  unfolding disk_bytes plain_at bucket_size
  drained_disk = ext_get_or 0 after.disk plain (L.disk_is ∙ sym j.plain-length) (λ i hi.
      let N : ℕ = bucket_size z in
      let e : i ≡ i / N * N + i % N = sym (div-add-mod' i N) in
      let k : i % N < N = mod-lt i size_pos in
      ap (λ (x : ℕ). get_or after.disk x 0) e ∙ sym (get_d_part after.disk (i / N * N) N (i % N) k)
      ∙ whole_disk (i / N) (i % N)
      ∙ get_d_part plain (i / N * N) N (i % N) k ∙ ap (λ (x : ℕ). get_or plain x 0) (sym e))
    where
      L : Lengths z after
      L = lens z plain s after stored

      size_pos : 1 ≤ bucket_size z
      size_pos = mul-pos B.p_low s_pos

-- ---- the call

drain_passed : (s : State) (d : Device) → refusal drain_call s d ≡ 0 → s.running ≡ true
unfolding refusal tests
drain_passed s d r = (running_passed s d [] (rw (append-nil (running_tests s d)) r)).0

pub drain_pays : (z : Sizes) → Pays z drain_call
unfolding plan_of feed
drain_pays z s d plain fits i r =
    let B = limits_of z fits in
    pays_good z B.p_low drain_call s d plain refl
    (subst (λ (y : Sizes). Good z plain (drain y s d) d) (sym i.sizes_are) (drain_good z B plain s d (inside z s d plain i (drain_passed s d r))))

-- after a Done drain the disk is the plain disk
pub drain_settles : (z : Sizes) → limits z ≡ true → (s : State) (d : Device) (plain : List ℕ) → Inv z s d plain → refusal drain_call s d ≡ 0
    → (apply_all z d (plan_of drain_call s d).stores).disk ≡ plain
unfolding plan_of
drain_settles z fits s d plain i r =
    subst (λ (y : Sizes). (apply_all z d (drain y s d).stores).disk ≡ plain) (sym i.sizes_are)
    (drained_disk z (limits_of z fits) plain s d (inside z s d plain i (drain_passed s d r)))

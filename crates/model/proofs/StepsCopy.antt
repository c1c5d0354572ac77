-- A copy just programmed in the free head becomes the read bucket of its back-end bucket, and the old one joins GC.
use Prim.Native.Nat.{ℕ, ◌+◌, ◌≤◌, ◌<◌}
use mathlib.Core.Path.{◌≡◌, refl, sym, ap, ◌∙◌}
use mathlib.Core.Logic.{◌⊎◌, inl, inr, ◌≢◌}
use mathlib.Core.Bool.{true, false, true≢false}
use mathlib.Core.Option.{none}
use mathlib.Core.List.{List, [], ◌∷◌, ◌++◌, map, append-nil}
use native.Mathlib.Omega.{arith}
use native.Mathlib.Decide.{ℕ_discrete}
use lib.ListN.{length, drop, length-append}
use Rattle.lists.specs.Lists.{head, empty, times}
use Rattle.lists.proofs.Tests.{true_or_false}
use Rattle.lists.proofs.Counts.{times-only, times_self, times_append, times-rest}
use Rattle.model.specs.declared.Sizes.{Sizes}
use Rattle.model.specs.Sizes.{Device, body}
use Rattle.model.specs.Stores.{erase, apply}
use Rattle.model.specs.Image.{epoch_of, back_of, complete}
use Rattle.model.specs.State.{State, moved, entry, holds, cache_of, caches_of, without, caches, is_marked}
use Rattle.model.specs.Steps.{taken, take_copy}
use Rattle.model.proofs.Limits.{on_chip}
use Rattle.model.proofs.Views.{SafeAt, Newest}
use Rattle.model.proofs.Retire.{retire_others}
use Rattle.model.proofs.Safe.{view, gives_of, holds_of, plain_at, Safe, Ready, Marks}
use Rattle.model.proofs.Frames.{Lengths, lengths_of}
use Rattle.model.proofs.Show.{Same, same_trans, back_of-same, complete-same, epoch_of-same, holds_same}
use Rattle.model.proofs.Prefix.{along_end}
use Rattle.model.proofs.Copy.{Copied}
use Rattle.model.proofs.Buckets.{holds_parts, copy_silent}
use Rattle.model.proofs.Queues.{Maps, absent_without, maps_without, caches_of-none, caches_of_one, times-without, length_without, maps_times, without_maps}
use Rattle.model.proofs.QueuesGrown.{times_grown, maps_older}
use Rattle.model.proofs.QueuesShown.{Reads, Writes, reads_kept, writes_kept, reads_without, reads_grown}
use Rattle.model.proofs.QueuesErased.{gone, gone_lengths, gone_same}
use Rattle.model.proofs.LedgerKept.{Ledger}
use Rattle.model.proofs.FindableRuns.{ledger_later}
use Rattle.model.proofs.Inside.{Inside, in_chip, one_place, gc_below}
use Rattle.model.proofs.StepsJoin.{erased_view, safe_erased, joined}
use Rattle.model.proofs.Marks.{marks_kept}

module _ (z : Sizes) (p_pos : 1 ≤ z.p) (plain : List ℕ) (s : State) (d e : Device) (j : Inside z plain s d) (b k : ℕ) (has_free : empty s.free ≡ false)
    (run : Copied z plain s.gc (head s.free) b s.next k d e) (ledger : Ledger z e s.next) where
  abbrev c : ℕ
  c = head s.free

  count : (x : ℕ) → times x s.free ≡ times x (head s.free ∷ []) + times x (drop 1 s.free)
  count x = times-rest x s.free has_free

  c_in : head s.free < body z
  c_in = in_chip z plain s d j c (omega (arith, count c, times_self c))

  -- a bucket that stands elsewhere
  not_c : (x : ℕ) → 1 ≤ times x (caches s.reads) + times x (caches s.writes) + times x s.gc + times x (drop 1 s.free) → x ≢ head s.free
  not_c x h q = omega (arith, one_place z plain s d j x, count x, ap (λ (y : ℕ). times x (y ∷ [])) (sym q), times_self x)

  read_still : (b' x : ℕ) → Maps s.reads b' x → Same z d e x
  read_still b' x m = run.still x (not_c x (omega (arith, maps_times s.reads b' x m)))

  c_parts : (head s.free < body z) × (complete z e (head s.free) ≡ true) × (back_of z e (head s.free) ≡ b)
  c_parts = holds_parts z e c b run.held

  ages : (x : ℕ) → x < body z → epoch_of z e x ≤ s.next
  ages x hx = go (ℕ_discrete x c)
    where
      go : Dec (x ≡ c) → epoch_of z e x ≤ s.next
      go (yes q) = rw (q, run.age) (omega arith)
      go (no ne) = rw (epoch_of-same z p_pos d e x (run.still x ne)) (omega (arith, j.next_above x hx))

  -- ---- the old read bucket

  module _ (r : ℕ) (m : Maps s.reads b r) where
    swept : Device
    swept = gone z e s.gc

    e_lens : Lengths z e
    e_lens = lengths_of z e run.chip.lens

    to_swept : (x : ℕ) → times x s.gc ≡ 0 → Same z e (gone z e s.gc) x
    to_swept x t = gone_same z s.gc (gc_below z plain s d j) e e_lens x t

    r_same : Same z d (gone z e s.gc) r
    r_same = same_trans z (read_still b r m) (to_swept r (omega (arith, one_place z plain s d j r, maps_times s.reads b r m)))

    c_same : Same z e (gone z e s.gc) (head s.free)
    c_same = to_swept c (omega (arith, one_place z plain s d j c, count c, times_self c))

    r_parts : (r < body z) × (complete z d r ≡ true) × (back_of z d r ≡ b)
    r_parts = holds_parts z d r b (j.reads.copies b r m)

    old_safe : Safe z plain (apply z (gone z e s.gc) (erase r))
    unfolding Safe
    old_safe = safe_erased z p_pos (gone z e s.gc) L r (on_chip z r r_parts.0) plain b (back_of-same z p_pos d (gone z e s.gc) r r_same ∙ r_parts.2) safe own
      where
        L : Lengths z (gone z e s.gc)
        L = gone_lengths z s.gc (gc_below z plain s d j) e e_lens

        safe : Safe z plain (gone z e s.gc)
        safe = along_end z (Safe z plain) e (map erase s.gc) run.ready

        older : (x : ℕ) → Newest (view z (gone z e s.gc)) b x → x ≢ r
        older x n q =
            let held : holds_of z (gone z e s.gc) c b ≡ true = holds_same z p_pos e (gone z e s.gc) c c_same b ∙ run.held in
            let new : epoch_of z (gone z e s.gc) c ≡ s.next = epoch_of-same z p_pos e (gone z e s.gc) c c_same ∙ run.age in
            let old : epoch_of z (gone z e s.gc) x ≡ epoch_of z d r = ap (epoch_of z (gone z e s.gc)) q ∙ epoch_of-same z p_pos d (gone z e s.gc) r r_same in
            omega (arith, n.1 c held, j.next_above r r_parts.0)

        own : SafeAt (view z (apply z (gone z e s.gc) (erase r))) b (plain_at z plain b)
        own = retire_others (erased_view z p_pos (gone z e s.gc) L r (on_chip z r r_parts.0)) b (plain_at z plain b)
            (λ x i q. rw (times-only x r q) (copy_silent z (gone z e s.gc) r (complete-same z p_pos d (gone z e s.gc) r r_same ∙ r_parts.1) b i)) (λ x n q. older x n (times-only x r q)) (safe b)

  ready_joined : Ready z plain (s.gc ++ caches_of b s.reads) e
  ready_joined = go (true_or_false (holds b s.reads))
    where
      go : (holds b s.reads ≡ true) ⊎ (holds b s.reads ≡ false) → Ready z plain (s.gc ++ caches_of b s.reads) e
      go (inr n) = rw (caches_of-none s.reads b n, append-nil s.gc) run.ready
      go (inl h) =
          let r = cache_of b s.reads in
          let m : Maps s.reads b r = record { held = h; is = refl } in
          rw (caches_of_one s.reads b r m) (joined z plain s.gc e r run.ready (old_safe r m))

  -- ---- the state

  reads_after : Reads z e (without b s.reads ++ (entry b (head s.free) 0 ∷ []))
  unfolding entry
  reads_after = reads_grown z e (without b s.reads) (entry b c 0) (absent_without s.reads b) run.held
      (λ x h. rw run.age (ages x (holds_parts z e x b h).0))
      (reads_kept z p_pos d e (without b s.reads) (λ b' x m. read_still b' x (maps_without s.reads b b' x m).1)
      (λ b' x h q. run.still x (λ eq. true≢false (sym h ∙ (ap (λ (y : ℕ). holds y (without b s.reads)) (other b' x q eq) ∙ absent_without s.reads b))))
      (reads_without z d s.reads b j.reads))
    where
      other : (b' x : ℕ) → holds_of z e x b' ≡ true → x ≡ c → b' ≡ b
      other b' x q eq = sym (holds_parts z e x b' q).2 ∙ (ap (back_of z e) eq ∙ c_parts.2)

  writes_after : Writes z e s.writes
  writes_after = writes_kept z p_pos d e s.writes (λ b' x m. run.still x (not_c x (omega (arith, maps_times s.writes b' x m))))
      (λ b' x i h. go b' x i (ℕ_discrete x c)) j.writes
    where
      go : (b' x i : ℕ) → Dec (x ≡ c) → Same z d e x ⊎ (gives_of z e x b' i ≡ none)
      go b' x i (yes q) = inr (rw q (copy_silent z e c c_parts.1 b' i))
      go b' x i (no ne) = inl (run.still x ne)

  few_after : (holds b s.reads ≡ true) ⊎ (length s.reads < z.r) → length (without b s.reads ++ (entry b (head s.free) 0 ∷ [])) ≤ z.r
  few_after f = rw (length-append (without b s.reads) (entry b c 0 ∷ [])) (go f)
    where
      go : (holds b s.reads ≡ true) ⊎ (length s.reads < z.r) → length (without b s.reads) + 1 ≤ z.r
      go (inl h) = omega (arith, length_without s.reads b, ap length (caches_of_one s.reads b (cache_of b s.reads) (record { held = h; is = refl })), j.few_reads)
      go (inr h) = omega (arith, length_without s.reads b)

  -- b's own record is not marked
  marks_after : is_marked b s.writes ≡ false → Marks z plain e (without b s.reads ++ (entry b (head s.free) 0 ∷ [])) s.writes
  marks_after n = marks_kept z plain p_pos d e s.reads (without b s.reads ++ (entry b c 0 ∷ [])) s.writes
      (λ b' x h m. (maps_older (entry b c 0) (without b s.reads) b' x (without_maps s.reads b b' x (λ q. true≢false (sym h ∙ (ap (λ (y : ℕ). is_marked y s.writes) (sym q) ∙ n))) m), read_still b' x m)) j.marks

  pub copied_inside : is_marked b s.writes ≡ false → s.next < 4294967296 → (holds b s.reads ≡ true) ⊎ (length s.reads < z.r) → Inside z plain (take_copy b s) e
  unfolding take_copy taken moved entry
  copied_inside unmarked room fewer = record {
    sizes_are = j.sizes_are;
    plain-length = j.plain-length;
    chip = run.chip;
    ledger = ledger_later z e s.next (s.next + 1) (omega arith) ledger;
    ready = ready_joined;
    once = λ x. omega (arith, count x, times_grown (entry b c 0) (without b s.reads) x, times-without s.reads b j.reads.read_once x, times_append x s.gc (caches_of b s.reads)) ∙ j.once x;
    reads = reads_after;
    writes = writes_after;
    marks = marks_after unmarked;
    few_reads = few_after fewer;
    few_writes = j.few_writes;
    free_blank = λ x t k' hk. (run.still x (not_c x (omega arith))).tags-same k' hk ∙ j.free_blank x (omega (arith, count x)) k' hk;
    accepted_low = j.accepted_low;
    next_above = λ x hx. omega (arith, ages x hx);
    next_low = omega arith;
    next_high = omega arith;
  }

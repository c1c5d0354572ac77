-- A bucket leaves its queue for GC: a Write bucket whose bytes are stored elsewhere, a read bucket whose bytes are on the disk. And a device that shows
-- the same buckets keeps the invariant.
use Prim.Native.Nat.{ℕ, ◌+◌, ◌≤◌, ◌<◌}
use mathlib.Core.Path.{◌≡◌, refl, sym, ap, ◌∙◌}
use mathlib.Core.Logic.{◌⊎◌, inl, inr, ◌≢◌}
use mathlib.Core.Bool.{true, false, true≢false}
use mathlib.Core.Option.{Option, none, some}
use mathlib.Core.List.{List, ◌++◌, map}
use native.Mathlib.Omega.{arith}
use native.Mathlib.Nat.{le_of_eq}
use native.Mathlib.Decide.{ℕ_discrete}
use lib.ListN.{length, get_or, length-map}
use Rattle.lists.specs.Lists.{times}
use Rattle.lists.proofs.Tests.{true_or_false}
use Rattle.lists.proofs.Counts.{times-only, times_self, times_append}
use Rattle.model.specs.declared.Sizes.{Sizes}
use Rattle.model.specs.declared.Entry.{Entry}
use Rattle.model.specs.Sizes.{Device, body}
use Rattle.model.specs.Stores.{erase, apply, bucket_bytes, disk_bytes}
use Rattle.model.specs.Image.{epoch_of, back_of, is_dirty, complete}
use Rattle.model.specs.State.{State, moved, holds, caches_of, without, caches, remarked}
use Rattle.model.specs.Steps.{drop_write}
use Rattle.model.proofs.Limits.{on_chip}
use Rattle.model.proofs.Views.{Lay, SafeAt, safe_drop}
use Rattle.model.proofs.Retire.{retire_copies}
use Rattle.model.proofs.Safe.{view, gives_of, holds_of, plain_at, Chip, Ready, Marks}
use Rattle.model.proofs.Frames.{Lengths, disk_erased, tag_erased}
use Rattle.model.proofs.Show.{Same, same_trans, gives_same, holds_same, epoch_of-same, back_of-same, is_dirty-same, complete-same, same_refl}
use Rattle.model.proofs.Buckets.{blank_gives, blank-holds, holds_parts, copy_silent}
use Rattle.model.proofs.Queues.{Maps, absent, caches_of_one, times-without, length_without, maps_times, without_maps}
use Rattle.model.proofs.QueuesShown.{Reads, Writes, reads_kept, writes_kept, reads_without, writes_without}
use Rattle.model.proofs.QueuesErased.{gone, gone_disk}
use Rattle.model.proofs.LedgerKept.{Ledger}
use Rattle.model.proofs.Inside.{Inside, lens, in_chip, one_place, gc_below, swept-lengths, swept_safe, read_same, write_same, who_gives, who_holds}
use Rattle.model.proofs.StepsJoin.{same_left, erased_view, safe_erased, joined}
use Rattle.model.proofs.QueuesGrown.{caches-map}
use Rattle.model.proofs.Marks.{keeps_remarked, marked_without, marked_cleared, writes_remarked, marks_fewer, marks_kept}

-- ---- a device that shows the same buckets

pub same_inside : (z : Sizes) → 1 ≤ z.p → (plain : List ℕ) (s : State) (d e : Device) → Inside z plain s d → Chip z e → Ledger z e s.next → Ready z plain s.gc e
    → ((c : ℕ) → Same z d e c) → Inside z plain s e
same_inside z p_pos plain s d e j chip ledger ready still = record {
  sizes_are = j.sizes_are;
  plain-length = j.plain-length;
  chip = chip;
  ledger = ledger;
  ready = ready;
  once = j.once;
  reads = reads_kept z p_pos d e s.reads (λ b c m. still c) (λ b c h q. still c) j.reads;
  writes = writes_kept z p_pos d e s.writes (λ b c m. still c) (λ b c i h. inl (still c)) j.writes;
  marks = marks_kept z plain p_pos d e s.reads s.reads s.writes (λ b c h m. (m, still c)) j.marks;
  few_reads = j.few_reads;
  few_writes = j.few_writes;
  free_blank = λ c t k hk. (still c).tags-same k hk ∙ j.free_blank c t k hk;
  accepted_low = j.accepted_low;
  next_above = λ c hc. rw (epoch_of-same z p_pos d e c (still c)) (j.next_above c hc);
  next_low = j.next_low;
  next_high = j.next_high;
}

-- ---- other queues, with the same buckets and the same free ones

pub requeued : (z : Sizes) (plain : List ℕ) (s : State) (d : Device) → Inside z plain s d → (reads writes : List Entry) (gc : List ℕ) → Ready z plain gc d
    → ((c : ℕ) → times c (caches reads) + times c (caches writes) + times c gc ≡ times c (caches s.reads) + times c (caches s.writes) + times c s.gc)
    → Reads z d reads → Writes z d writes → Marks z plain d reads writes → length reads ≤ z.r → length writes ≤ z.w → Inside z plain (moved s reads writes gc s.free) d
unfolding moved
requeued z plain s d j reads writes gc ready same r w m few_reads few_writes = record {
  sizes_are = j.sizes_are;
  plain-length = j.plain-length;
  chip = j.chip;
  ledger = j.ledger;
  ready = ready;
  once = λ c. ap (λ (n : ℕ). n + times c s.free) (same c) ∙ j.once c;
  reads = r;
  writes = w;
  marks = m;
  few_reads = few_reads;
  few_writes = few_writes;
  free_blank = j.free_blank;
  accepted_low = j.accepted_low;
  next_above = j.next_above;
  next_low = j.next_low;
  next_high = j.next_high;
}

module _ (z : Sizes) (p_pos : 1 ≤ z.p) (plain : List ℕ) (s : State) (d : Device) (j : Inside z plain s d) where
  abbrev swept : Device
  swept = gone z d s.gc

  L : Lengths z (gone z d s.gc)
  L = swept-lengths z plain s d j

  -- ---- a Write bucket

  -- b's bytes without its logs are the plain disk's: in a Dirty read bucket, or on the disk
  pub data Stored (b : ℕ) : Type 0 where
    in_copy : (r : ℕ) → Maps s.reads b r → is_dirty z d r ≡ true → ((i : ℕ) → get_or (bucket_bytes z d r) i 0 ≡ plain_at z plain b i) → Stored b
    on_disk : holds b s.reads ≡ false → ((i : ℕ) → get_or (disk_bytes z d b) i 0 ≡ plain_at z plain b i) → Stored b

  module _ (b w : ℕ) (m : Maps s.writes b w) where
    w_in : w < z.c
    w_in = on_chip z w (in_chip z plain s d j w (omega (arith, maps_times s.writes b w m)))

    abbrev left : Device
    left = apply z (gone z d s.gc) (erase w)

    same : (c : ℕ) → c ≢ w → Same z (gone z d s.gc) (apply z (gone z d s.gc) (erase w)) c
    same c ne = same_left z p_pos swept L w w_in c ne

    no_logs : (c i : ℕ) → gives_of z (apply z (gone z d s.gc) (erase w)) c b i ≡ none
    no_logs c i = go (ℕ_discrete c w) (gives_of z left c b i) refl
      where
        go : Dec (c ≡ w) → (o : Option ℕ) → gives_of z left c b i ≡ o → gives_of z left c b i ≡ none
        go (yes q) o e = rw q (blank_gives z left w p_pos (tag_erased z swept L w w_in) b i)
        go (no ne) none e = e
        go (no ne) (some x) e =
            let m' = who_gives z plain s d j p_pos c b i x (sym (gives_same z p_pos swept left c (same c ne) b i) ∙ e) in
            absurd (ne (sym m'.is ∙ m.is))

    who : (c : ℕ) → holds_of z (apply z (gone z d s.gc) (erase w)) c b ≡ true → Maps s.reads b c
    who c h = go (ℕ_discrete c w)
      where
        go : Dec (c ≡ w) → Maps s.reads b c
        go (yes q) = absurd (true≢false (sym h ∙ rw q (blank-holds z left w p_pos (tag_erased z swept L w w_in) b)))
        go (no ne) = who_holds z plain s d j p_pos c b (sym (holds_same z p_pos swept left c (same c ne) b) ∙ h)

    own : Stored b → SafeAt (view z (apply z (gone z d s.gc) (erase w))) b (plain_at z plain b)
    own (in_copy r mr dirty content) =
        let ne : r ≢ w = λ q. omega (arith, one_place z plain s d j r, maps_times s.reads b r mr, ap (λ (x : ℕ). times x (caches s.writes)) q, maps_times s.writes b w m) in
        let sm : Same z d left r = same_trans z (read_same z plain s d j b r mr) (same r ne) in
        safe_drop (view z left) b (plain_at z plain b) no_logs
        (inl (
          r,
          (holds_same z p_pos d left r sm b ∙ j.reads.copies b r mr, λ c h. le_of_eq (ap (epoch_of z left) (sym (who c h).is ∙ mr.is))),
          (λ i. ap (λ (l : List ℕ). get_or l i 0) sm.bytes_same ∙ content i),
          is_dirty-same z p_pos d left r sm ∙ dirty,
        ))
    own (on_disk n content) = safe_drop (view z left) b (plain_at z plain b) no_logs (inr (
      (λ c. none_held c (true_or_false (holds_of z left c b))),
      (λ i. ap (λ (l : List ℕ). get_or l i 0) (disk_erased z swept L w w_in b ∙ gone_disk z s.gc (gc_below z plain s d j) d (lens z plain s d j) b) ∙ content i),
    ))
      where
        none_held : (c : ℕ) → (holds_of z left c b ≡ true) ⊎ (holds_of z left c b ≡ false) → holds_of z left c b ≡ false
        none_held c (inr q) = q
        none_held c (inl q) = absurd (absent n (who c q))

    pub write_dropped : Stored b → Inside z plain (drop_write b s) d
    unfolding drop_write
    write_dropped st = requeued z plain s d j s.reads (without b s.writes) (s.gc ++ caches_of b s.writes)
        (rw (caches_of_one s.writes b w m) (joined z plain s.gc d w j.ready
        (safe_erased z p_pos swept L w w_in plain b (back_of-same z p_pos d swept w (write_same z plain s d j b w m) ∙ (j.writes.logs b w m).1) (swept_safe z plain s d j) (own st))))
        (λ c. omega (arith, times-without s.writes b j.writes.write_once c, times_append c s.gc (caches_of b s.writes)))
        j.reads (writes_without z d s.writes b j.writes) (marks_fewer z plain d s.reads s.writes (without b s.writes) (λ b' h. marked_without s.writes b b' h) j.marks) j.few_reads (omega (arith, length_without s.writes b, j.few_writes))

  -- ---- a read bucket

  module _ (b r : ℕ) (m : Maps s.reads b r) where
    r_parts : (r < body z) × (complete z d r ≡ true) × (back_of z d r ≡ b)
    r_parts = holds_parts z d r b (j.reads.copies b r m)

    r_same : Same z d (gone z d s.gc) r
    r_same = read_same z plain s d j b r m

    own_copies : ((i : ℕ) → Lay (view z (gone z d s.gc)) b ((view z (gone z d s.gc)).disk b) i (plain_at z plain b i))
        → SafeAt (view z (apply z (gone z d s.gc) (erase r))) b (plain_at z plain b)
    own_copies lay = retire_copies (erased_view z p_pos swept L r (on_chip z r r_parts.0)) b (plain_at z plain b)
        (λ c i q. rw (times-only c r q) (copy_silent z swept r (complete-same z p_pos d swept r r_same ∙ r_parts.1) b i))
        (λ c h. rw (sym (who_holds z plain s d j p_pos c b h).is ∙ m.is) (le_of_eq (sym (times_self r)))) lay

    pub read_dropped : ((i : ℕ) → Lay (view z (gone z d s.gc)) b ((view z (gone z d s.gc)).disk b) i (plain_at z plain b i))
        → Inside z plain (moved s (without b s.reads) (map (remarked b false) s.writes) (s.gc ++ caches_of b s.reads) s.free) d
    read_dropped lay = requeued z plain s d j (without b s.reads) (map (remarked b false) s.writes) (s.gc ++ caches_of b s.reads)
        (rw (caches_of_one s.reads b r m) (joined z plain s.gc d r j.ready
        (safe_erased z p_pos swept L r (on_chip z r r_parts.0) plain b (back_of-same z p_pos d swept r r_same ∙ r_parts.2) (swept_safe z plain s d j) (own_copies lay))))
        (λ c. omega (arith, times-without s.reads b j.reads.read_once c, times_append c s.gc (caches_of b s.reads), ap (times c) (caches-map (remarked b false) (keeps_remarked b false) s.writes)))
        (reads_without z d s.reads b j.reads) (writes_remarked z d s.writes b false j.writes)
        (marks_kept z plain p_pos d d s.reads (without b s.reads) (map (remarked b false) s.writes)
        (λ b' c h q. (without_maps s.reads b b' c (λ u. (marked_cleared b s.writes b' h).0 (sym u)) q, same_refl z d c))
        (marks_fewer z plain d s.reads s.writes (map (remarked b false) s.writes) (λ b' h. (marked_cleared b s.writes b' h).1) j.marks))
        (omega (arith, length_without s.reads b, j.few_reads)) (rw (length-map s.writes (remarked b false)) j.few_writes)

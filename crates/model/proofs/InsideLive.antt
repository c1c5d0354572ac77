-- Between calls and inside a call: a running state that is Live is Inside, and one that is Inside is Live.
use Prim.Native.Nat.{ℕ, ◌*◌, ◌≤◌, ◌<◌}
use mathlib.Core.Path.{◌≡◌, refl, sym, ap, ◌∙◌, subst}
use mathlib.Core.Bool.{Bool, true, ◌&&◌}
use mathlib.Core.List.{List, [], ◌∷◌}
use native.Mathlib.Omega.{arith}
use native.Mathlib.Decide.{dec_lt}
use lib.ListN.{length}
use lib.Dec.{ltb, eqb}
use borrow.Author.Tests.{lt-ltb, le-ltb, ltb-true, le-leb, leb-true, eq-eqb, eqb-true}
use Rattle.std.specs.Prelude.{if◌then◌else◌}
use Rattle.lists.specs.Lists.{all, times, distinct, ff}
use Rattle.lists.proofs.Tests.{every_at, every_more, every-none, and_left, and_right, and-true}
use Rattle.lists.proofs.Rows.{all-below, below_all, count_full, count_all}
use Rattle.lists.proofs.Counts.{all_in, in_all, length_once}
use Rattle.model.specs.declared.Sizes.{Sizes}
use Rattle.model.specs.declared.Entry.{Entry}
use Rattle.model.specs.Sizes.{Device, bucket_size, body}
use Rattle.model.specs.Stores.{tag_of}
use Rattle.model.specs.Spare.{blank}
use Rattle.model.specs.Image.{back_of, is_write, complete, page_blank, blanks}
use Rattle.model.specs.Ledger.{entry_fits, entries_fit, well_formed}
use Rattle.model.specs.State.{State, cache_of, backs, queued, is_below, once_in, each_once, read_agrees, count_agrees, write_agrees, all_blank, top_epoch, state_fits}
use Rattle.model.proofs.Safe.{holds_of}
use Rattle.model.proofs.Invariant.{Live, Inv}
use Rattle.model.proofs.LedgerKept.{Ledger}
use Rattle.model.proofs.Tags.{blank-ff, blank-true}
use Rattle.model.proofs.Formed.{epoch_top, entry_top}
use Rattle.model.proofs.Buckets.{holds_parts, holds_from}
use Rattle.model.proofs.Queues.{Maps, maps_times}
use Rattle.model.proofs.QueuesGrown.{maps_all, all_maps}
use Rattle.model.proofs.Marks.{marks_test}
use Rattle.model.proofs.QueuesShown.{priority_fits, Reads, Writes}
use Rattle.model.proofs.Inside.{places, places_queued, Inside, in_chip, a_place}
use Rattle.model.proofs.InsideFound.{top_below, inside_found}

all_true : (l : List Entry) → all (λ e. true) l ≡ true
unfolding all
all_true [] = refl
all_true (e ∷ l) = all_true l

all_both : (t u : Entry → Bool) (l : List Entry) → all t l ≡ true → all u l ≡ true → all (λ e. t e && u e) l ≡ true
unfolding all
all_both t u [] h k = refl
all_both t u (e ∷ l) h k = and-true (and-true (and_left (t e) (all t l) h) (and_left (u e) (all u l) k)) (all_both t u l (and_right (t e) (all t l) h) (and_right (u e) (all u l) k))

-- ---- into a call

pub once_of : (n : ℕ) (s : State) → each_once n (queued s) ≡ true → (c : ℕ) → places s c ≡ (if ltb c n then 1 else 0)
unfolding each_once is_below once_in
once_of n s h c = go (dec_lt c n)
  where
    go : Dec (c < n) → places s c ≡ (if ltb c n then 1 else 0)
    go (yes u) = rw (lt-ltb c n u) (sym (places_queued s c) ∙ eqb-true _ _ (all-below n (once_in (queued s)) (every_at _ h 2) c u))
    go (no u) = rw (le-ltb c n (omega arith)) (sym (places_queued s c) ∙ none (dec_lt 0 (times c (queued s))))
      where
        none : Dec (0 < times c (queued s)) → times c (queued s) ≡ 0
        none (yes t) = absurd (u (ltb-true c n (all_in (is_below n) (queued s) (every_at _ h 1) c t)))
        none (no t) = omega arith

pub blanks_of : (z : Sizes) (d : Device) (l : List ℕ) → all (all_blank z d) l ≡ true → (c : ℕ) → 1 ≤ times c l → (k : ℕ) → k < z.p → tag_of z d c k ≡ ff 16
unfolding all_blank blanks page_blank
blanks_of z d l h c t k hk = blank-true (tag_of z d c k) (count_full z.p (page_blank z d c) (eqb-true _ _ (all_in (all_blank z d) l h c t)) k hk)

pub placed : (n : ℕ) (s : State) → each_once n (queued s) ≡ true → (c : ℕ) → 1 ≤ places s c → c < n
unfolding each_once is_below
placed n s h c t = ltb-true c n (all_in (is_below n) (queued s) (every_at _ h 1) c (omega (arith, places_queued s c)))

module _ (s : State) (d : Device) (plain : List ℕ) (live : Live s.sizes s d plain) where
  abbrev z : Sizes
  z = s.sizes

  reads_of : each_once (body s.sizes) (queued s) ≡ true → distinct (backs s.reads) ≡ true → all (read_agrees s.sizes d) s.reads ≡ true → Reads s.sizes d s.reads
  unfolding read_agrees
  reads_of o ds h = record {
    read_once = ds;
    copies = λ b c m. copy b c m (maps_all (read_agrees z d) s.reads ds h b c m);
    newest-copy = λ b c m x q. rw (← m.is) (live.newest_reads b m.held x q);
  }
    where
      copy : (b c : ℕ) → Maps s.reads b c → (e : Entry) × (e.back ≡ b) × (e.cache ≡ c) × (read_agrees z d e ≡ true) → holds_of z d c b ≡ true
      copy b c m t =
          let e = t.0 in
          rw (← t.1, ← t.2) (holds_from z d e.cache e.back (rw t.2 (placed (body z) s o c (omega (arith, maps_times s.reads b c m))))
          (and_left (complete z d e.cache) (eqb (back_of z d e.cache) e.back) t.3)
          (eqb-true _ _ (and_right (complete z d e.cache) (eqb (back_of z d e.cache) e.back) t.3)))

  writes_of : distinct (backs s.writes) ≡ true → all (write_agrees s.sizes d) s.writes ≡ true → Writes s.sizes d s.writes
  unfolding write_agrees priority_fits
  writes_of ds h = record {
    write_once = ds;
    logs = λ b c m. log b c (maps_all (write_agrees z d) s.writes ds h b c m);
    newest_logs = λ b c m x i ne. rw (← m.is) (live.newest_writes b m.held x i (λ q. ne (q ∙ m.is)));
    priorities = all_maps (priority_fits z) (write_agrees z d) s.writes ds h (λ e m q. every_at _ q 2);
  }
    where
      log : (b c : ℕ) → (e : Entry) × (e.back ≡ b) × (e.cache ≡ c) × (write_agrees z d e ≡ true) → (is_write z d c ≡ true) × (back_of z d c ≡ b)
      log b c t = rw (← t.1, ← t.2) (every_at _ t.3 0, eqb-true _ _ (every_at _ t.3 1))

  ledger_of : Ledger s.sizes d s.next
  unfolding well_formed entries_fit state_fits
  ledger_of = record {
    entries = all-below (2 * z.p) (entry_fits z d) (every_at _ live.formed 1);
    lower_packed = every_at _ live.formed 2;
    upper_packed = every_at _ live.formed 3;
    one = every_at _ live.fits 13;
    below_next = λ i hi. omega (arith, entry_top z d i hi, ltb-true (top_epoch z d) s.next (every_at _ live.fits 10));
    apart = live.apart;
  }

  inside_of : length plain ≡ s.sizes.b * bucket_size s.sizes → Inside s.sizes plain s d
  unfolding state_fits
  inside_of pl = record {
    sizes_are = refl;
    plain-length = pl;
    chip = live.chip;
    ledger = ledger_of;
    ready = live.ready;
    once = once_of (body z) s (every_at _ live.fits 0);
    reads = reads_of (every_at _ live.fits 0) (every_at _ live.fits 3) (every_at _ live.fits 5);
    writes = writes_of (every_at _ live.fits 4) (every_at _ live.fits 6);
    marks = live.marks;
    few_reads = leb-true _ _ (every_at _ live.fits 1);
    few_writes = leb-true _ _ (every_at _ live.fits 2);
    free_blank = blanks_of z d s.free (every_at _ live.fits 7);
    accepted_low = leb-true _ _ (every_at _ live.fits 8);
    next_above = λ c hc. omega (arith, epoch_top z d c hc, ltb-true (top_epoch z d) s.next (every_at _ live.fits 10));
    next_low = leb-true _ _ (every_at _ live.fits 9);
    next_high = leb-true _ _ (every_at _ live.fits 11);
  }

pub inside : (z : Sizes) (s : State) (d : Device) (plain : List ℕ) → Inv z s d plain → s.running ≡ true → Inside z plain s d
inside z s d plain i run =
    subst (λ (y : Sizes). Live y s d plain → length plain ≡ y.b * bucket_size y → Inside y plain s d) i.sizes_are
    (λ l pl. inside_of s d plain l pl) (i.live run) i.plain-length

-- ---- out of a call

module _ (s : State) (p_pos : 1 ≤ s.sizes.p) (d : Device) (plain : List ℕ) (j : Inside s.sizes plain s d) (counts : all (count_agrees s.sizes d) s.writes ≡ true) where
  once_test : each_once (body s.sizes) (queued s) ≡ true
  unfolding each_once is_below once_in
  once_test =
      every_more _ _ (eq-eqb _ _ (length_once (body s.sizes) (queued s) (λ c. places_queued s c ∙ j.once c)))
      (every_more _ _ (in_all (is_below (body s.sizes)) (queued s) (λ c t. lt-ltb c (body s.sizes) (in_chip s.sizes plain s d j c (omega (arith, places_queued s c)))))
      (every_more _ _ (below_all (body s.sizes) (once_in (queued s)) (λ c hc. eq-eqb _ _ (places_queued s c ∙ a_place s.sizes plain s d j c hc))) every-none))

  reads_test : all (read_agrees s.sizes d) s.reads ≡ true
  unfolding read_agrees
  reads_test = all_maps (read_agrees s.sizes d) (λ e. true) s.reads j.reads.read_once (all_true s.reads) (λ e m q.
      let h = holds_parts s.sizes d e.cache e.back (j.reads.copies e.back e.cache m) in
      and-true h.1 (eq-eqb _ _ h.2))

  writes_test : all (write_agrees s.sizes d) s.writes ≡ true
  unfolding write_agrees priority_fits
  writes_test = all_maps (write_agrees s.sizes d) (λ e. priority_fits s.sizes e && count_agrees s.sizes d e) s.writes j.writes.write_once
      (all_both (priority_fits s.sizes) (count_agrees s.sizes d) s.writes j.writes.priorities counts) (λ e m q.
      let h = j.writes.logs e.back e.cache m in
      let priority = and_left (priority_fits s.sizes e) (count_agrees s.sizes d e) q in
      let count = and_right (priority_fits s.sizes e) (count_agrees s.sizes d e) q in
      every_more _ _ h.0 (every_more _ _ (eq-eqb _ _ h.1) (every_more _ _ priority (every_more _ _ count every-none))))

  free_test : all (all_blank s.sizes d) s.free ≡ true
  unfolding all_blank blanks page_blank
  free_test = in_all (all_blank s.sizes d) s.free (λ c t. eq-eqb _ _ (count_all s.sizes.p (page_blank s.sizes d c) (λ k hk. ap blank (j.free_blank c t k hk) ∙ blank-ff)))

  formed_of : well_formed s.sizes d ≡ true
  unfolding well_formed entries_fit
  formed_of =
      every_more _ _ j.chip.formed
      (every_more _ _ (below_all (2 * s.sizes.p) (entry_fits s.sizes d) j.ledger.entries)
      (every_more _ _ j.ledger.lower_packed (every_more _ _ j.ledger.upper_packed every-none)))

  fits_of : state_fits s d ≡ true
  unfolding state_fits
  fits_of =
      every_more _ _ once_test
      (every_more _ _ (le-leb _ _ j.few_reads)
      (every_more _ _ (le-leb _ _ j.few_writes)
      (every_more _ _ j.reads.read_once
      (every_more _ _ j.writes.write_once
      (every_more _ _ reads_test
      (every_more _ _ writes_test
      (every_more _ _ free_test
      (every_more _ _ (le-leb _ _ j.accepted_low)
      (every_more _ _ (le-leb _ _ j.next_low)
      (every_more _ _ (lt-ltb (top_epoch s.sizes d) s.next (omega (arith, j.next_low, top_below s.sizes p_pos plain s d j)))
      (every_more _ _ (le-leb _ _ j.next_high)
      (every_more _ _ (marks_test s.sizes plain d s.reads s.writes j.writes.write_once j.marks)
      (every_more _ _ j.ledger.one every-none)))))))))))))

  live_of : Live s.sizes s d plain
  live_of = record {
    formed = formed_of;
    fits = fits_of;
    chip = j.chip;
    apart = j.ledger.apart;
    ready = j.ready;
    newest_reads = λ b h x q. j.reads.newest-copy b (cache_of b s.reads) (record { held = h; is = refl }) x q;
    marks = j.marks;
    newest_writes = λ b h x i ne. j.writes.newest_logs b (cache_of b s.writes) (record { held = h; is = refl }) x i ne;
  }

pub live : (z : Sizes) → 1 ≤ z.p → (s : State) (d : Device) (plain : List ℕ) → Inside z plain s d → all (count_agrees z d) s.writes ≡ true → Live z s d plain
live z p_pos s d plain j = subst (λ (y : Sizes). 1 ≤ y.p → Inside y plain s d → all (count_agrees y d) s.writes ≡ true → Live y s d plain) j.sizes_are (λ hp i counts. live_of s hp d plain i counts) p_pos j

pub outside : (z : Sizes) → 1 ≤ z.p → (s : State) (d : Device) (plain : List ℕ) → Inside z plain s d → all (count_agrees z d) s.writes ≡ true → Inv z s d plain
outside z p_pos s d plain j counts = record { sizes_are = j.sizes_are; plain-length = j.plain-length; found = inside_found z p_pos plain s d j; live = λ run. live z p_pos s d plain j counts }

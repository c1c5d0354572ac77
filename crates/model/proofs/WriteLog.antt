-- The log of a write, behind the pages of its Write bucket or in a bucket just taken: its last page moves the plain disk on.
use Prim.Native.Nat.{ℕ, ◌+◌, ◌-◌, ◌*◌, ◌≤◌, ◌<◌}
use mathlib.Core.Path.{◌≡◌, refl, sym, ap, ◌∙◌, subst}
use mathlib.Core.Logic.{◌⊎◌, inl, inr, ◌≢◌}
use mathlib.Core.Bool.{true, false, true≢false}
use mathlib.Core.Option.{none}
use mathlib.Core.List.{List, [], ◌∷◌, ◌++◌, map}
use native.Mathlib.Omega.{arith}
use native.Mathlib.Decide.{ℕ_discrete, dec_lt}
use lib.ListN.{length, drop, length-append, get_or, length-map}
use borrow.Author.Tests.{le-leb}
use Rattle.lists.specs.Lists.{head, empty, times, splice, ff}
use Rattle.lists.proofs.Parts.{length-splice}
use Rattle.lists.proofs.Counts.{times_self, times-rest}
use Rattle.model.specs.declared.Sizes.{Sizes}
use Rattle.model.specs.declared.Entry.{Entry}
use Rattle.model.specs.Sizes.{Device, bucket_size, pages_for, body}
use Rattle.model.specs.Stores.{tag_of}
use Rattle.model.specs.Spare.{write_kind}
use Rattle.model.specs.Image.{epoch_of, back_of, is_write, blanks}
use Rattle.model.specs.State.{State, moved, entry, holds, cache_of, caches, is_marked, remarked}
use Rattle.model.specs.Steps.{taken, log_stores}
use Rattle.model.specs.Operations.{take_write, append_log, start_log}
use Rattle.model.specs.Promise.{disk_place}
use Rattle.model.proofs.Limits.{Limits, pages_fit}
use Rattle.model.proofs.Safe.{gives_of, Marks}
use Rattle.model.proofs.Frames.{row_fits_lem}
use Rattle.model.proofs.Show.{Same, epoch_of-same, back_of-same, is_write-same, gives_same, is_dirty-same}
use Rattle.model.proofs.Formed.{blank_end, epoch-some}
use Rattle.model.proofs.FormedKept.{chip_formed, chip-epoch}
use Rattle.model.proofs.Pages.{Log}
use Rattle.model.proofs.Log.{Place, fresh, behind_last, Logged, log_cuts, log_done}
use Rattle.model.proofs.Buckets.{blanks_most, gives_beyond}
use Rattle.model.proofs.BucketKinds.{write-used}
use Rattle.model.proofs.Queues.{Maps, maps_times}
use Rattle.model.proofs.QueuesGrown.{times_grown, caches-map}
use Rattle.model.proofs.QueuesShown.{priority_fits, Reads, Writes, reads_kept, writes_kept, writes_grown}
use Rattle.model.proofs.LedgerKept.{Ledger, apart_own}
use Rattle.model.proofs.FindableRuns.{log_harmless, next_new, ledger_later, ledger_runs, findable_cuts}
use Rattle.model.proofs.Inside.{Inside, lens, in_chip, one_place, gc_below}
use Rattle.model.proofs.Calling.{Range}
use Rattle.model.proofs.WriteAccept.{Moves, accept_inside, accept_cleared}
use Rattle.model.proofs.Plain.{plain_others}
use Rattle.model.proofs.Marks.{keeps_remarked, marked_held, marked_grown, marked_cleared, writes_remarked}

module _ (z : Sizes) (B : Limits z) (plain : List ℕ) (s : State) (d : Device) (j : Inside z plain s d) (b off : ℕ) (bytes : List ℕ) (range : Range z b off (length bytes)) where
  abbrev after : List ℕ
  after = splice plain (disk_place z b off) bytes

  room : disk_place z b off + length bytes ≤ length plain
  unfolding disk_place
  room = rw j.plain-length (omega (arith, range.range_in, row_fits_lem b z.b (bucket_size z) range.b_in))

  after-length : length (splice plain (disk_place z b off) bytes) ≡ z.b * bucket_size z
  after-length = length-splice plain (disk_place z b off) bytes room ∙ j.plain-length

  -- ---- what a log leaves of the read queue

  module _ (c e : ℕ) (f : Device) (run : Logged z (splice plain (disk_place z b off) bytes) s.gc c b e d f)
      (not_c : (x : ℕ) → 1 ≤ times x (caches s.reads) → x ≢ c) where
    reads_logged : Reads z f s.reads
    reads_logged = reads_kept z B.p_low d f s.reads (λ b' x m. run.still x (not_c x (maps_times s.reads b' x m)))
        (λ b' x h q. run.still x (λ eq. true≢false (sym q ∙ rw eq (run.no_copy b')))) j.reads

    -- other records' marks: their plain bytes stay
    marks_logged : (l : List Entry) → ((b' : ℕ) → is_marked b' l ≡ true → (b' ≢ b) × (is_marked b' s.writes ≡ true)) → Marks z (splice plain (disk_place z b off) bytes) f s.reads l
    marks_logged l other b' h =
        let o = other b' h in
        let a = j.marks b' o.1 in
        let still = run.still a.cache (not_c a.cache (maps_times s.reads b' a.cache a.maps)) in
        record {
          cache = a.cache;
          maps = a.maps;
          dirty = is_dirty-same z B.p_low d f a.cache still ∙ a.dirty;
          content = λ i. ap (λ (x : List ℕ). get_or x i 0) still.bytes_same ∙ (a.content i ∙ sym (plain_others z plain b off bytes range.range_in room b' i o.0));
        }

  -- ---- behind the pages of b's Write bucket

  module _ (w : ℕ) (m : Maps s.writes b w) where
    w_times : 1 ≤ times w (caches s.writes)
    w_times = maps_times s.writes b w m

    w_in : w < body z
    w_in = in_chip z plain s d j w (omega (arith, w_times))

    not_w : (x : ℕ) → 1 ≤ times x (caches s.reads) + times x s.gc + times x s.free → x ≢ w
    not_w x h q = omega (arith, one_place z plain s d j x, ap (λ (y : ℕ). times y (caches s.writes)) q, w_times)

    module _ (f : Device) (run : Logged z (splice plain (disk_place z b off) bytes) s.gc w b (epoch_of z d w) d f) where
      writes_appended : Writes z f s.writes
      writes_appended = record {
        write_once = j.writes.write_once;
        logs = λ b' x mx. log b' x mx (ℕ_discrete x w);
        newest_logs = λ b' x mx y i ne. newest b' x mx y i (ℕ_discrete x w) (ℕ_discrete y w) (j.writes.newest_logs b' x mx y i ne) ne;
        priorities = j.writes.priorities;
      }
        where
          own : (b' x : ℕ) → Maps s.writes b' x → x ≡ w → b' ≡ b
          own b' x mx q = sym (j.writes.logs b' x mx).1 ∙ (ap (back_of z d) q ∙ (j.writes.logs b w m).1)

          log : (b' x : ℕ) → Maps s.writes b' x → Dec (x ≡ w) → (is_write z f x ≡ true) × (back_of z f x ≡ b')
          log b' x mx (yes q) = (ap (is_write z f) q ∙ run.is_write_lem, ap (back_of z f) q ∙ (run.back_is ∙ sym (own b' x mx q)))
          log b' x mx (no ne) =
              (is_write-same z B.p_low d f x (run.still x ne) ∙ (j.writes.logs b' x mx).0, back_of-same z B.p_low d f x (run.still x ne) ∙ (j.writes.logs b' x mx).1)

          age : (x : ℕ) → Dec (x ≡ w) → epoch_of z f x ≡ epoch_of z d x
          age x (yes q) = ap (epoch_of z f) q ∙ (run.age ∙ ap (epoch_of z d) (sym q))
          age x (no ne) = epoch_of-same z B.p_low d f x (run.still x ne)

          newest : (b' x : ℕ) → Maps s.writes b' x → (y i : ℕ) → Dec (x ≡ w) → Dec (y ≡ w) → (gives_of z d y b' i ≡ none) ⊎ (epoch_of z d y ≤ epoch_of z d x) → y ≢ x
              → (gives_of z f y b' i ≡ none) ⊎ (epoch_of z f y ≤ epoch_of z f x)
          newest b' x mx y i p q (inr o) ne = inr (omega (arith, age x p, age y q))
          newest b' x mx y i p (no r) (inl n) ne = inl (gives_same z B.p_low d f y (run.still y r) b' i ∙ n)
          newest b' x mx y i (yes p) (yes r) (inl n) ne = absurd (ne (r ∙ sym p))
          newest b' x mx y i (no p) (yes r) (inl n) ne = inl (rw r (run.alone b' i (λ eq. p (sym mx.is ∙ (ap (λ (v : ℕ). cache_of v s.writes) eq ∙ m.is)))))

      -- its mark, if it had one, is gone
      appended_inside : Ledger z f s.next → Inside z (splice plain (disk_place z b off) bytes) (moved s s.reads (map (remarked b false) s.writes) s.gc s.free) f
      unfolding moved
      appended_inside ledger = record {
        sizes_are = j.sizes_are;
        plain-length = after-length;
        chip = run.chip;
        ledger = ledger;
        ready = run.ready;
        once = λ x. ap (λ (l : List ℕ). times x (caches s.reads) + times x l + times x s.gc + times x s.free) (caches-map (remarked b false) (keeps_remarked b false) s.writes) ∙ j.once x;
        marks = marks_logged w (epoch_of z d w) f run (λ x h. not_w x (omega arith)) (map (remarked b false) s.writes) (λ b' h. marked_cleared b s.writes b' h);
        reads = reads_logged w (epoch_of z d w) f run (λ x h. not_w x (omega arith));
        writes = writes_remarked z f s.writes b false writes_appended;
        few_reads = j.few_reads;
        few_writes = rw (length-map s.writes (remarked b false)) j.few_writes;
        free_blank = λ x t k hk. (run.still x (not_w x (omega arith))).tags-same k hk ∙ j.free_blank x t k hk;
        accepted_low = j.accepted_low;
        next_above = λ x hx. above x hx (ℕ_discrete x w);
        next_low = j.next_low;
        next_high = j.next_high;
      }
        where
          above : (x : ℕ) → x < body z → Dec (x ≡ w) → epoch_of z f x < s.next
          above x hx (yes q) = rw (q, run.age) (j.next_above w w_in)
          above x hx (no ne) = rw (epoch_of-same z B.p_low d f x (run.still x ne)) (j.next_above x hx)

    append_log_lem : pages_for z (length bytes) ≤ blanks z d w → Log z w (z.p - blanks z d w) write_kind (epoch_of z d w) b off bytes
    append_log_lem fit = record {
      bucket_in = w_in;
      kind_low = omega arith;
      kind_high = omega arith;
      epoch_low = epoch-some z d (chip_formed z j.chip) B.p_low w w_in (write-used z d w (j.writes.logs b w m).0);
      epoch_high = chip-epoch z j.chip w w_in;
      back_in = range.b_in;
      some_bytes = range.n_some;
      bytes_in = range.range_in;
      pages_in = omega (arith, blanks_most z d w);
      whole = inl refl;
    }

    append_place : Place z d w (z.p - blanks z d w) (epoch_of z d w) b
    append_place = subst (λ (y : ℕ). Place z d w (z.p - blanks z d w) (epoch_of z d w) y) (j.writes.logs b w m).1 (behind_last z B.p_low d j.chip w w_in (j.writes.logs b w m).0)

    gc_not_w : (x : ℕ) → 1 ≤ times x s.gc → (x < z.c) × (w ≢ x)
    gc_not_w x t = (gc_below z plain s d j x t, λ q. not_w x (omega arith) (sym q))

    rest-blank : (k : ℕ) → z.p - blanks z d w ≤ k → k < z.p → tag_of z d w k ≡ ff 16
    rest-blank k h hk = blank_end z d w ((chip_formed z j.chip).buckets_fit w w_in) k h hk

  pub append_moves : holds b s.writes ≡ true → pages_for z (length bytes) ≤ blanks z d (cache_of b s.writes)
      → Moves z plain (splice plain (disk_place z b off) bytes) (append_log z b off bytes s d) d
  unfolding append_log
  append_moves h fit =
      let w = cache_of b s.writes in
      let m : Maps s.writes b w = record { held = h; is = refl } in
      let e = epoch_of z d w in
      let first = z.p - blanks z d w in
      let done = log_done z B w first e b off bytes (append_log_lem w m fit) d j.chip (append_place w m) plain room s.gc (gc_not_w w m) (rest-blank w m) (j.writes.newest_logs b w m) j.ready in
      let stores = log_stores z w first write_kind e b off bytes in
      let harmless = log_harmless z B w first write_kind e b off bytes (append_log_lem w m fit) d (apart_own z d j.ledger.apart w (write-used z d w (j.writes.logs b w m).0)) in
      record {
        cuts = findable_cuts z B.p_low plain stores d s.next j.next_high harmless j.ledger
            (log_cuts z B w first e b off bytes (append_log_lem w m fit) d j.chip (append_place w m) plain room s.gc (gc_not_w w m) (rest-blank w m) (j.writes.newest_logs b w m) j.ready);
        whole = rw (← accept_cleared b (blanks z d w - pages_for z (length bytes)) s) (accept_inside z after b (blanks z d w - pages_for z (length bytes)) (omega (arith, blanks_most z d w)) _ _ (appended_inside w m _ done
            (ledger_runs z B.p_low stores d s.next (lens z plain s d j) harmless j.ledger)));
      }

  -- ---- in a bucket just taken

  module _ (has_free : empty s.free ≡ false) (absent_yet : holds b s.writes ≡ false) (fewer : length s.writes < z.w) (next_room : s.next < 4294967296) where
    abbrev c : ℕ
    c = head s.free

    count : (x : ℕ) → times x s.free ≡ times x (head s.free ∷ []) + times x (drop 1 s.free)
    count x = times-rest x s.free has_free

    c_free : 1 ≤ times (head s.free) s.free
    c_free = omega (arith, count c, times_self c)

    c_in : head s.free < body z
    c_in = in_chip z plain s d j c (omega (arith, c_free))

    not_c : (x : ℕ) → 1 ≤ times x (caches s.reads) + times x (caches s.writes) + times x s.gc + times x (drop 1 s.free) → x ≢ head s.free
    not_c x h q = omega (arith, one_place z plain s d j x, count x, ap (λ (y : ℕ). times x (y ∷ [])) (sym q), times_self x)

    start_log_lem : Log z (head s.free) 0 write_kind s.next b off bytes
    start_log_lem = record {
      bucket_in = c_in;
      kind_low = omega arith;
      kind_high = omega arith;
      epoch_low = j.next_low;
      epoch_high = next_room;
      back_in = range.b_in;
      some_bytes = range.n_some;
      bytes_in = range.range_in;
      pages_in = omega (arith, pages_fit z (length bytes) (omega (arith, B.s_low)) (omega (arith, range.range_in)));
      whole = inl refl;
    }

    newest : (x i : ℕ) → x ≢ head s.free → (gives_of z d x b i ≡ none) ⊎ (epoch_of z d x ≤ s.next)
    newest x i ne = go (dec_lt x (body z))
      where
        go : Dec (x < body z) → (gives_of z d x b i ≡ none) ⊎ (epoch_of z d x ≤ s.next)
        go (yes u) = inr (omega (arith, j.next_above x u))
        go (no u) = inl (gives_beyond z d x (omega arith) b i)

    module _ (f : Device) (run : Logged z (splice plain (disk_place z b off) bytes) s.gc (head s.free) b s.next d f) where
      writes_started : Writes z f (s.writes ++ (entry b (head s.free) 0 ∷ []))
      unfolding entry priority_fits
      writes_started = writes_grown z f s.writes (entry b c 0) absent_yet run.is_write_lem run.back_is
          (λ x i ne. older x i ne (newest x i ne)) (le-leb 0 z.p (omega arith))
          (writes_kept z B.p_low d f s.writes (λ b' x m. run.still x (not_c x (omega (arith, maps_times s.writes b' x m))))
          (λ b' x i h. others b' x i h (ℕ_discrete x c)) j.writes)
        where
          older : (x i : ℕ) → x ≢ c → (gives_of z d x b i ≡ none) ⊎ (epoch_of z d x ≤ s.next) → (gives_of z f x b i ≡ none) ⊎ (epoch_of z f x ≤ epoch_of z f c)
          older x i ne (inl n) = inl (gives_same z B.p_low d f x (run.still x ne) b i ∙ n)
          older x i ne (inr o) = inr (omega (arith, epoch_of-same z B.p_low d f x (run.still x ne), run.age))

          others : (b' x i : ℕ) → holds b' s.writes ≡ true → Dec (x ≡ c) → Same z d f x ⊎ (gives_of z f x b' i ≡ none)
          others b' x i h (yes q) = inr (rw q (run.alone b' i (λ eq. true≢false (sym h ∙ (ap (λ (v : ℕ). holds v s.writes) eq ∙ absent_yet)))))
          others b' x i h (no ne) = inl (run.still x ne)

      started_inside : Ledger z f s.next → Inside z (splice plain (disk_place z b off) bytes) (take_write b s) f
      unfolding take_write taken moved entry
      started_inside ledger = record {
        sizes_are = j.sizes_are;
        plain-length = after-length;
        chip = run.chip;
        ledger = ledger_later z f s.next (s.next + 1) (omega arith) ledger;
        ready = run.ready;
        once = λ x. omega (arith, count x, times_grown (entry b c 0) s.writes x) ∙ j.once x;
        reads = reads_logged c s.next f run (λ x h. not_c x (omega arith));
        writes = writes_started;
        marks = marks_logged c s.next f run (λ x h. not_c x (omega arith)) (s.writes ++ (entry b c 0 ∷ []))
            (λ b' h. let q = marked_grown s.writes (entry b c 0) refl b' h in ((λ u. true≢false (sym (marked_held s.writes b' q) ∙ (ap (λ (y : ℕ). holds y s.writes) u ∙ absent_yet))), q));
        few_reads = j.few_reads;
        few_writes = rw (length-append s.writes (entry b c 0 ∷ [])) (omega (arith, fewer));
        free_blank = λ x t k hk. (run.still x (not_c x (omega arith))).tags-same k hk ∙ j.free_blank x (omega (arith, count x)) k hk;
        accepted_low = j.accepted_low;
        next_above = λ x hx. above x hx (ℕ_discrete x c);
        next_low = omega arith;
        next_high = omega arith;
      }
        where
          above : (x : ℕ) → x < body z → Dec (x ≡ c) → epoch_of z f x < s.next + 1
          above x hx (yes q) = rw (q, run.age) (omega arith)
          above x hx (no ne) = rw (epoch_of-same z B.p_low d f x (run.still x ne)) (omega (arith, j.next_above x hx))

    gc_not_c : (x : ℕ) → 1 ≤ times x s.gc → (x < z.c) × (head s.free ≢ x)
    gc_not_c x t = (gc_below z plain s d j x t, λ q. not_c x (omega arith) (sym q))

    pub start_moves : (d₀ : Device) → Moves z plain (splice plain (disk_place z b off) bytes) (start_log z b off bytes s d₀) d
    unfolding start_log
    start_moves d₀ =
        let done = log_done z B c 0 s.next b off bytes start_log_lem d j.chip (fresh refl j.next_above) plain room s.gc gc_not_c (λ k h hk. j.free_blank c c_free k hk) newest j.ready in
        let stores = log_stores z c 0 write_kind s.next b off bytes in
        let harmless = log_harmless z B c 0 write_kind s.next b off bytes start_log_lem d (next_new z d s.next j.ledger c) in
        record {
          cuts = findable_cuts z B.p_low plain stores d s.next j.next_high harmless j.ledger
              (log_cuts z B c 0 s.next b off bytes start_log_lem d j.chip (fresh refl j.next_above) plain room s.gc gc_not_c (λ k h hk. j.free_blank c c_free k hk) newest j.ready);
          whole = accept_inside z after b (z.p - pages_for z (length bytes)) (omega arith) (take_write b s) _ (started_inside _ done
              (ledger_runs z B.p_low stores d s.next (lens z plain s d j) harmless j.ledger));
        }

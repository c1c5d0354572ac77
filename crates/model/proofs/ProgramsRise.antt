-- The programs of every call that is not refused rise; a read and a write leave kept counts true.
use Prim.Native.Nat.{ℕ, ◌-◌, ◌≤◌, ◌<◌}
use mathlib.Core.Path.{◌≡◌, refl, sym, ap, ◌∙◌}
use mathlib.Core.Logic.{◌⊎◌, inl, inr, ◌≢◌}
use mathlib.Core.Bool.{Bool, true, false}
use mathlib.Core.List.{List, [], ◌++◌, map, append-nil}
use native.Mathlib.Omega.{arith}
use native.Mathlib.Decide.{ℕ_discrete}
use lib.ListN.{length, get_or}
use lib.Dec.{leb, ltb}
use borrow.Author.Tests.{leb-true, ltb-false}
use Rattle.std.specs.Prelude.{if◌then◌else◌}
use Rattle.lists.specs.Lists.{head, empty, times, all, below, keep}
use Rattle.lists.proofs.Tests.{true_or_false, every_at, and_left, and_right}
use Rattle.lists.proofs.Counts.{grown_some, times_self, times_append}
use Rattle.model.specs.declared.Sizes.{Sizes}
use Rattle.model.specs.declared.Entry.{Entry}
use Rattle.model.specs.Sizes.{Device, pages_for, body}
use Rattle.model.specs.Stores.{erase, apply_all, bucket_bytes, unit_stores}
use Rattle.model.specs.Spare.{blank, read_kind, write_kind, dirty_kind}
use Rattle.model.specs.Image.{epoch_of, is_dirty, blanks}
use Rattle.model.specs.Ledger.{well_formed}
use Rattle.model.specs.State.{State, moved, entry, holds, cache_of, caches_of, without, count_agrees, write_agrees, state_fits, is_marked, remarked}
use Rattle.model.specs.Steps.{Plan, Step, nothing, ◌then◌, move, make_room, taken, drop_write, take_copy, merged, log_stores, fill_copy, copy, write_out, evict}
use Rattle.model.specs.Operations.{last_epoch, recorded, counted, accept, take_write, victim, fits, make_way, append_log, start_log, write, touch, set_mark, drop_oldest, read, unclean, drain_stores, drain, format, outgoing, evict_any, without_oldest, is_current, make_place, read_copy}
use Rattle.model.specs.Recover.{is_rescued, rescued, rescue_stores, rebuilt, swept, recover}
use Rattle.model.specs.Calls.{format_call, read_call, write_call, erase_call, drain_call, recover_call, running_tests, tests, refusal, sizes_of, plan_of}
use Rattle.model.specs.StoresMade.{Rising, ProgramsRise}
use Rattle.model.proofs.Limits.{pages_fit, on_chip}
use Rattle.model.proofs.Frames.{length_bucket}
use Rattle.model.proofs.Formed.{blank_end, used_start}
use Rattle.model.proofs.Tags.{blank-ff}
use Rattle.model.proofs.Buckets.{blanks_most}
use Rattle.model.proofs.Queues.{Maps, maps_times, absent_without, still_absent, without_maps, times_left, caches_of_one}
use Rattle.model.proofs.QueuesGrown.{caches-map, all_without, all_grown, all_maps}
use Rattle.model.proofs.KeptCounts.{count_same, counts_stay, counts_remarked, agrees_after, agrees-set, agrees_other, counts_absent, counts_accepted}
use Rattle.model.proofs.Marks.{keeps_remarked}
use Rattle.model.proofs.Inside.{places}
use Rattle.model.proofs.InsideLive.{once_of, blanks_of}
use Rattle.model.proofs.Steps.{some_left, room_there}
use Rattle.model.proofs.StepsUnits.{oldest}
use Rattle.model.proofs.Calling.{Range, Passed, tests_passed, read_passed}
use Rattle.model.proofs.Write.{victim_in, write_passed}
use Rattle.model.proofs.Tested.{bounds, lens, formed, in_place, reads_in, writes_in, read_back, write-back, merged_size}
use Rattle.model.proofs.Programs.{is_no_program, Stage, stage_blanks, log_rises, log_stage, none_rise, all-joined, all_concat, none_units, none_erase}
use Rattle.model.proofs.ProgramsLedger.{shape_of}
use Rattle.model.proofs.ProgramsPool.{Counted, Pool, Rises, then_rises, nothing_rises, pool_moved, erase_rises, room_rises, taken_rises, taken_stage, taken_other, copy_rises, units_rise}

-- ---- calls without programs

format-none : (z : Sizes) → all is_no_program (format z).stores ≡ true
unfolding format
format-none z = none_erase (below z.c)

drain-none : (z : Sizes) (d : Device) (s : State) → all is_no_program (drain z s d).stores ≡ true
unfolding drain drain_stores
drain-none z d s = all_concat is_no_program (drain_stores z d s) (λ b. none_units z b (merged z s d b)) (keep (unclean z d s) (below z.b))

recover-none : (z : Sizes) (d : Device) → all is_no_program (recover z d).stores ≡ true
unfolding recover rebuilt rescue_stores
recover-none z d =
    let e = apply_all z d (map erase (swept z d)) in
    all-joined is_no_program (map erase (swept z d)) _ (none_erase (swept z d)) (all_concat is_no_program (rescue_stores z e) (λ b. none_units z b (rescued z e b)) (keep (is_rescued z e) (below z.b)))

-- a copy leaves the write queue
pub copy_writes : (z : Sizes) (k b : ℕ) (bytes : List ℕ) (s : State) (d : Device) → (empty s.free ≡ false) ⊎ (empty s.gc ≡ false) → (copy z k b bytes s d).state.writes ≡ s.writes
unfolding copy fill_copy ◌then◌ take_copy taken moved
copy_writes z k b bytes s d some = (room_there z s d some).writes_same

accept_sizes : (b n : ℕ) (s : State) → (accept b n s).sizes ≡ s.sizes
unfolding accept counted recorded moved
accept_sizes b n s = refl

-- ---- a call that passed its tests

pub erase_passed : (s : State) (d : Device) → refusal erase_call s d ≡ 0 → Passed s d
unfolding refusal tests
erase_passed s d r = (tests_passed s d [] (rw (append-nil (running_tests s d)) r)).0

module _ (s : State) (d : Device) (pass : Passed s d) where
  abbrev z : Sizes
  z = s.sizes

  pub start : Pool s.sizes s d
  unfolding state_fits write_agrees well_formed
  start = record {
    bounds = bounds s d pass;
    counted = record {
      at_sizes = refl;
      counts = all_maps (count_agrees z d) (write_agrees z d) s.writes (every_at _ pass.state_fits_lem 4) (every_at _ pass.state_fits_lem 6) (λ e m h. every_at _ h 3);
    };
    lens = lens s d pass;
    in_chip = in_place s d pass;
    once = λ c. go c (ltb c (body z)) (once_of (body z) s (every_at _ pass.state_fits_lem 0) c);
    blanks = blanks_of z d s.free (every_at _ pass.state_fits_lem 7);
    ledger = shape_of z (bounds s d pass).p_low d (every_at _ pass.body_formed 2) (every_at _ pass.body_formed 3) (every_at _ pass.state_fits_lem 13);
  }
    where
      go : (c : ℕ) (t : Bool) → places s c ≡ (if t then 1 else 0) → places s c ≤ 1
      go c true h = omega arith
      go c false h = omega arith

  pub some : (empty s.free ≡ false) ⊎ (empty s.gc ≡ false)
  unfolding state_fits
  some = some_left (body z) s (once_of (body z) s (every_at _ pass.state_fits_lem 0))
      (omega (arith, leb-true (length s.reads) z.r (every_at _ pass.state_fits_lem 1), leb-true (length s.writes) z.w (every_at _ pass.state_fits_lem 2), (bounds s d pass).room))

  merged-pages : (b : ℕ) → b < s.sizes.b → pages_for s.sizes (length (merged s.sizes s d b)) ≤ s.sizes.p
  merged-pages b hb = pages_fit z _ (omega (arith, (bounds s d pass).s_low)) (omega (arith, merged_size s d pass b hb))

  -- a bucket may be taken
  abbrev Some : State → Type 0
  Some t = (empty t.free ≡ false) ⊎ (empty t.gc ≡ false)

  -- ---- a read

  module _ (b r : ℕ) (m : Maps s.reads b r) where
    abbrev left : State
    left = moved s (without b s.reads) (map (remarked b false) s.writes) (s.gc ++ caches_of b s.reads) s.free

    left_pool : (e : Device) → Pool s.sizes s e → Pool s.sizes (moved s (without b s.reads) (map (remarked b false) s.writes) (s.gc ++ caches_of b s.reads) s.free) e
    unfolding moved
    left_pool e pool = pool_moved z s left e e pool refl pool.lens
        (λ c. omega (arith, times_left s.reads b c, times_append c s.gc (caches_of b s.reads), ap (times c) (caches-map (remarked b false) (keeps_remarked b false) s.writes)))
        (λ c. omega arith) (λ c q k hk. refl) (counts_remarked z e b false s.writes pool.counted.counts) pool.ledger

    left_some : Some (moved s (without b s.reads) (map (remarked b false) s.writes) (s.gc ++ caches_of b s.reads) s.free)
    unfolding moved
    left_some = inr (rw (caches_of_one s.reads b r m) (grown_some s.gc r))

    left_rises : Rises s.sizes (Pool s.sizes) (record {
      stores = if is_dirty s.sizes d r then unit_stores s.sizes b (bucket_bytes s.sizes d r) else [];
      state = moved s (without b s.reads) (map (remarked b false) s.writes) (s.gc ++ caches_of b s.reads) s.free;
    }) d
    unfolding apply_all Rising write_out
    left_rises = go (true_or_false (is_dirty z d r))
      where
        go : (is_dirty z d r ≡ true) ⊎ (is_dirty z d r ≡ false) → Rises z (Pool z) (record { stores = if is_dirty z d r then unit_stores z b (bucket_bytes z d r) else []; state = left }) d
        go (inr q) = rw q (record { rising = tt; left = left_pool d start })
        go (inl q) =
            let u = units_rise z s d start b (read_back s d pass b r m) (bucket_bytes z d r) (length_bucket z d (lens s d pass) r (on_chip z r (reads_in s d pass b r m))) in
            rw q (record { rising = u.rising; left = left_pool _ u.left })

  oldest_rises : Rises s.sizes (Pool s.sizes) (drop_oldest s.sizes s d) d × Some (drop_oldest s.sizes s d).state
  unfolding drop_oldest without_oldest state_fits nothing
  oldest_rises = go (true_or_false (ltb (length s.reads) z.r))
    where
      go : (ltb (length s.reads) z.r ≡ true) ⊎ (ltb (length s.reads) z.r ≡ false) → Rises z (Pool z) (drop_oldest z s d) d × Some (drop_oldest z s d).state
      go (inl f) = rw f (nothing_rises z (Pool z) s d d start, some)
      go (inr f) =
          let o = oldest s.reads (every_at _ pass.state_fits_lem 3) (omega (arith, ltb-false (length s.reads) z.r f, (bounds s d pass).r_low)) in
          let first = get_or s.reads 0 (entry 0 0 0) in
          rw (f, o.rest_is, o.cache_is) (left_rises first.back first.cache o.maps_it, left_some first.back first.cache o.maps_it)

  copied : (k b : ℕ) → k < 4 → b < s.sizes.b → (t : State) (e : Device) → Pool s.sizes t e → Some t → Rises s.sizes (Pool s.sizes) (copy s.sizes k b (merged s.sizes s d b) t e) e
  copied k b hk hb t e pool there = copy_rises z t e pool there k b (merged z s d b) hk (merged-pages b hb)

  pub place_rises : (b : ℕ) → Rises s.sizes (Pool s.sizes) (make_place s.sizes b s d) d × Some (make_place s.sizes b s d).state
  unfolding make_place nothing
  place_rises b = go (true_or_false (holds b s.reads))
    where
      go : (holds b s.reads ≡ true) ⊎ (holds b s.reads ≡ false) → Rises z (Pool z) (make_place z b s d) d × Some (make_place z b s d).state
      go (inl r) = rw r (nothing_rises z (Pool z) s d d start, some)
      go (inr r) = rw r oldest_rises

  copy-read_rises : (b : ℕ) → b < s.sizes.b → Rises s.sizes (Counted s.sizes) (read_copy s.sizes b (merged s.sizes s d b) s d) d
  unfolding read_copy move set_mark moved
  copy-read_rises b hb =
      let place = place_rises b in
      let k = if holds b s.writes then dirty_kind else read_kind in
      let t = (make_place z b s d).state in
      let e = apply_all z d (make_place z b s d).stores in
      let copying = copy z k b (merged z s d b) in
      let made = copied k b (go (holds b s.writes)) hb t e place.0.left place.1 in
      then_rises z (Pool z) (Counted z) (make_place z b) (copying then move (set_mark b)) s d refl place.0
      (then_rises z (Pool z) (Counted z) copying (move (set_mark b)) t e place.0.left.counted.at_sizes made
      (nothing_rises z (Counted z) (set_mark b (copying t e).state) _ _ (record {
        at_sizes = made.left.counted.at_sizes;
        counts = counts_remarked z _ b true (copying t e).state.writes made.left.counted.counts;
      })))
    where
      go : (t : Bool) → (if t then dirty_kind else read_kind) < 4
      go true = omega arith
      go false = omega arith

  pub read_rises : (b : ℕ) → b < s.sizes.b → Rises s.sizes (Counted s.sizes) (read s.sizes b s d) d
  unfolding read move touch moved
  read_rises b hb = go (true_or_false (ltb last_epoch s.next)) (true_or_false (is_current b s))
    where
      go : (ltb last_epoch s.next ≡ true) ⊎ (ltb last_epoch s.next ≡ false) → (is_current b s ≡ true) ⊎ (is_current b s ≡ false) → Rises z (Counted z) (read z b s d) d
      go (inl e) c = rw e (nothing_rises z (Counted z) s d d start.counted)
      go (inr e) (inl c) = rw (e, c) (nothing_rises z (Counted z) (touch b s) d d (record { at_sizes = refl; counts = start.counted.counts }))
      go (inr e) (inr c) = rw (e, c) (copy-read_rises b hb)

  -- ---- a write

  -- what makes way for a log of b: b is not in the queue, and a bucket may be taken
  pub record Opens (b : ℕ) (p : Plan) : Type 0 where
    pub rises : Rises s.sizes (Pool s.sizes) p d
    pub absent_now : holds b p.state.writes ≡ false
    pub some_there : Some p.state

  -- v's Write bucket leaves
  module _ (b v : ℕ) (h : holds v s.writes ≡ true) (absent : holds b (without v s.writes) ≡ false) where
    abbrev w : ℕ
    w = cache_of v s.writes

    maps_v : Maps s.writes v (cache_of v s.writes)
    maps_v = record { held = h; is = refl }

    leaves : (f : Step) → Rises s.sizes (Pool s.sizes) (f s d) d → (f s d).state.writes ≡ s.writes → Opens b ((f then move (drop_write v)) s d)
    unfolding move drop_write moved ◌then◌ nothing
    leaves f r e =
        let t = (f s d).state in
        let after = apply_all z d (f s d).stores in
        record {
          rises = then_rises z (Pool z) (Pool z) f (move (drop_write v)) s d refl r (nothing_rises z (Pool z) (drop_write v t) after d
              (pool_moved z t (drop_write v t) after after r.left refl r.left.lens (λ c. omega (arith, times_left t.writes v c, times_append c t.gc (caches_of v t.writes))) (λ c. omega arith)
              (λ c q k hk. refl) (all_without (count_agrees z after) t.writes v r.left.counted.counts) r.left.ledger));
          absent_now = rw e absent;
          some_there = inr (rw (e, caches_of_one s.writes v w maps_v) (grown_some t.gc w));
        }

    evict_opens : Opens b (evict s.sizes v s d)
    unfolding evict write_out nothing
    evict_opens = go (true_or_false (is_marked v s.writes)) (true_or_false (holds v s.reads))
      where
        hv : v < z.b
        hv = write-back s d pass v w maps_v

        go : (is_marked v s.writes ≡ true) ⊎ (is_marked v s.writes ≡ false) → (holds v s.reads ≡ true) ⊎ (holds v s.reads ≡ false) → Opens b (evict z v s d)
        go (inl m) q = rw m (leaves nothing (nothing_rises z (Pool z) s d d start) refl)
        go (inr m) (inl q) = rw (m, q) (leaves (copy z dirty_kind v (merged z s d v)) (copied dirty_kind v (omega arith) hv s d start some) (copy_writes z dirty_kind v (merged z s d v) s d some))
        go (inr m) (inr q) = rw (m, q) (leaves (write_out z v (merged z s d v)) (units_rise z s d start v hv (merged z s d v) (merged_size s d pass v hv)) refl)

  pub way_opens : (b : ℕ) → Opens b (make_way s.sizes b s d)
  unfolding make_way outgoing evict_any nothing
  way_opens b = go (true_or_false (holds b s.writes)) (true_or_false (leb z.w (length s.writes)))
    where
      go : (holds b s.writes ≡ true) ⊎ (holds b s.writes ≡ false) → (leb z.w (length s.writes) ≡ true) ⊎ (leb z.w (length s.writes) ≡ false)
          → Opens b (make_way z b s d)
      go (inl q) l = rw q (evict_opens b b q (absent_without s.writes b))
      go (inr q) (inl l) =
          let v = victim z d s.writes in
          rw (q, l) (evict_opens b v (victim_in z d s.writes (omega (arith, leb-true z.w (length s.writes) l, (bounds s d pass).w_low))) (still_absent s.writes v b q))
      go (inr q) (inr l) = rw (q, l) (record { rises = nothing_rises z (Pool z) s d d start; absent_now = q; some_there = some })

  module _ (b off : ℕ) (bytes : List ℕ) (range : Range s.sizes b off (length bytes)) where
    abbrev pages : ℕ
    pages = pages_for s.sizes (length bytes)

    few : pages_for s.sizes (length bytes) ≤ s.sizes.p
    few = pages_fit z (length bytes) (omega (arith, (bounds s d pass).s_low)) (omega (arith, range.range_in))

    -- the log in a bucket just taken
    start_rises : (t : State) (e : Device) → Pool s.sizes t e → empty t.free ≡ false → holds b t.writes ≡ false → Rises s.sizes (Counted s.sizes) (start_log s.sizes b off bytes t e) e
    unfolding start_log take_write taken moved entry
    start_rises t e pool has_free absent =
        let stage = taken_stage z t e pool has_free write_kind t.next b off bytes (omega arith) few in
        let after = apply_all z e (log_stores z (head t.free) 0 write_kind t.next b off bytes) in
        record {
          rising = taken_rises z t e pool has_free write_kind t.next b off bytes (omega arith) few;
          left = record {
            at_sizes = accept_sizes b (z.p - pages) (take_write b t) ∙ pool.counted.at_sizes;
            counts = counts_accepted z after b (z.p - pages) (take_write b t)
                (all_grown (agrees_after z after b (z.p - pages)) t.writes (entry b (head t.free) 0)
                (counts_absent z after b (z.p - pages) t.writes absent
                (counts_stay z e after t.writes (λ c h. taken_other z t e pool has_free write_kind t.next b off bytes (omega arith) few c (omega arith)) pool.counted.counts))
                (agrees-set z after b (head t.free) (z.p - pages) (stage_blanks z (head t.free) 0 e pages after (omega (arith, few)) stage ∙ omega arith) (entry b (head t.free) 0) refl refl));
          };
        }

    anew_rises : Rises s.sizes (Counted s.sizes) ((make_way s.sizes b then make_room s.sizes then start_log s.sizes b off bytes) s d) d
    anew_rises =
        let way = way_opens b in
        let t = (make_way z b s d).state in
        let e = apply_all z d (make_way z b s d).stores in
        let room = room_rises z t e way.rises.left in
        let roomy = room_there z t e way.some_there in
        then_rises z (Pool z) (Counted z) (make_way z b) (make_room z then start_log z b off bytes) s d refl way.rises
        (then_rises z (Pool z) (Counted z) (make_room z) (start_log z b off bytes) t e way.rises.left.counted.at_sizes room
        (start_rises (make_room z t e).state _ room.left roomy.has_free (ap (holds b) roomy.writes_same ∙ way.absent_now)))

    -- the log behind the pages of b's Write bucket
    module _ (h : holds b s.writes ≡ true) (fit : pages_for s.sizes (length bytes) ≤ blanks s.sizes d (cache_of b s.writes)) where
      abbrev own : ℕ
      own = cache_of b s.writes

      maps_b : Maps s.writes b (cache_of b s.writes)
      maps_b = record { held = h; is = refl }

      own_in : cache_of b s.writes < body s.sizes
      own_in = writes_in s d pass b own maps_b

      first : Stage s.sizes (cache_of b s.writes) (s.sizes.p - blanks s.sizes d (cache_of b s.writes)) d 0 d
      first = record {
        lens = lens s d pass;
        used = λ i hi. used_start z d own ((formed s d pass).buckets_fit own own_in) i (omega arith);
        rest = λ i lo hi. ap blank (blank_end z d own ((formed s d pass).buckets_fit own own_in) i (omega arith) hi) ∙ blank-ff;
        others = λ x i ne hi. refl;
      }

      append_rises : Rises s.sizes (Counted s.sizes) (append_log s.sizes b off bytes s d) d
      unfolding append_log state_fits
      append_rises = record {
        rising = log_rises z own (z.p - left) write_kind (epoch_of z d own) b off bytes (on_chip z own own_in) (omega arith) (omega (arith, blanks_most z d own)) d first;
        left = record {
          at_sizes = accept_sizes b (left - pages) s;
          counts = counts_accepted z after b (left - pages) s
              (all_maps (agrees_after z after b (left - pages)) (count_agrees z d) s.writes (every_at _ pass.state_fits_lem 4) start.counted.counts (λ x m q. agrees x m q (ℕ_discrete x.back b)));
        };
      }
        where
          left : ℕ
          left = blanks z d own

          after : Device
          after = apply_all z d (log_stores z own (z.p - blanks z d own) write_kind (epoch_of z d own) b off bytes)

          stage : Stage z own (z.p - blanks z d own) d pages after
          stage = log_stage z own (z.p - left) write_kind (epoch_of z d own) b off bytes (on_chip z own own_in) (omega arith) (omega (arith, blanks_most z d own)) d first

          -- another record has another bucket
          other : (x : Entry) → x.back ≢ b → Maps s.writes x.back x.cache → x.cache ≢ own
          other x ne m q =
              omega (
                arith,
                start.once own,
                times_left s.writes b own,
                ap (times own) (caches_of_one s.writes b own maps_b),
                times_self own,
                maps_times (without b s.writes) x.back own (without_maps s.writes b x.back own (λ u. ne (sym u)) (rw q at m)),
              )

          agrees : (x : Entry) → Maps s.writes x.back x.cache → count_agrees z d x ≡ true → Dec (x.back ≡ b) → agrees_after z after b (left - pages) x ≡ true
          agrees x m q (yes u) = agrees-set z after b own (left - pages) (stage_blanks z own (z.p - left) d pages after (omega (arith, blanks_most z d own)) stage ∙ omega (arith, blanks_most z d own)) x u (sym (rw u at m.is))
          agrees x m q (no ne) = agrees_other z after b (left - pages) x ne (count_same z d after x (λ k hk. stage.others x.cache k (other x ne m) hk) q)

    pub write_rises : Rises s.sizes (Counted s.sizes) (write s.sizes b off bytes s d) d
    unfolding write fits
    write_rises = go (true_or_false (fits z d b pages s))
      where
        go : (fits z d b pages s ≡ true) ⊎ (fits z d b pages s ≡ false) → Rises z (Counted z) (write z b off bytes s d) d
        go (inl q) = rw q (append_rises (and_left (holds b s.writes) (leb pages (blanks z d (cache_of b s.writes))) q)
            (leb-true _ _ (and_right (holds b s.writes) (leb pages (blanks z d (cache_of b s.writes))) q)))
        go (inr q) = rw q anew_rises

-- ---- the calls

pub programs_rise : ProgramsRise
unfolding ProgramsRise sizes_of plan_of
programs_rise (format_call z) s d r = none_rise z (format z).stores (format-none z) d
programs_rise (read_call b off buffer) s d r = let pass = read_passed s d b off buffer r in (read_rises s d pass.0 b pass.1.b_in).rising
programs_rise (write_call b off bytes) s d r = let pass = write_passed s d b off bytes r in (write_rises s d pass.0 b off bytes pass.1).rising
programs_rise erase_call s d r = (erase_rises s.sizes s d (start s d (erase_passed s d r))).rising
programs_rise drain_call s d r = none_rise s.sizes (drain s.sizes s d).stores (drain-none s.sizes d s) d
programs_rise (recover_call z) s d r = none_rise z (recover z d).stores (recover-none z d) d

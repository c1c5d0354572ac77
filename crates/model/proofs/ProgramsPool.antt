-- The buckets that a step may take, and steps whose programs rise and that leave kept counts true.
use Prim.Native.Nat.{ℕ, ◌+◌, ◌*◌, ◌≤◌, ◌<◌}
use mathlib.Core.Path.{◌≡◌, refl, sym, ap, ◌∙◌, subst}
use mathlib.Core.Logic.{◌⊎◌, inl, inr, ◌≢◌}
use mathlib.Core.Bool.{true, false}
use mathlib.Core.List.{List, [], ◌∷◌, ◌++◌}
use native.Mathlib.Omega.{arith}
use native.Mathlib.Decide.{ℕ_discrete}
use lib.ListN.{length, drop}
use Rattle.lists.specs.Lists.{all, head, empty, times, part, ff}
use Rattle.lists.proofs.Tests.{true_or_false}
use Rattle.lists.proofs.Parts.{length-part-fits}
use Rattle.lists.proofs.Counts.{times_self, times_other, times_append, times-rest}
use Rattle.model.specs.declared.Sizes.{Sizes}
use Rattle.model.specs.Sizes.{Device, bucket_size, pages_for, body}
use Rattle.model.specs.Stores.{erase, apply, apply_all, tag_of, unit_store, unit_stores}
use Rattle.model.specs.Spare.{blank}
use Rattle.model.specs.State.{State, moved, entry, caches_of, without, caches, count_agrees}
use Rattle.model.specs.Steps.{Plan, Step, nothing, ◌then◌, entry_stores, noted_erase, erase_step, make_room, taken, take_copy, log_stores, fill_copy, copy, write_out, freed}
use Rattle.model.specs.StoresMade.{Rising}
use Rattle.model.proofs.Limits.{Limits, on_chip}
use Rattle.model.proofs.Tags.{blank-ff}
use Rattle.model.proofs.Frames.{Lengths, row_fits_lem, place_fits, lengths_kept, tag_erased, tag_unit}
use Rattle.model.proofs.Show.{same_erase}
use Rattle.model.proofs.Prefix.{apply_all_append, row_end}
use Rattle.model.proofs.Queues.{times_left}
use Rattle.model.proofs.QueuesGrown.{times_grown}
use Rattle.model.proofs.KeptCounts.{counts_stay}
use Rattle.model.proofs.Inside.{places}
use Rattle.model.proofs.Steps.{room_there}
use Rattle.model.proofs.Programs.{Stage, log_rises, log_stage, rising_append, none_rise, none_units}
use Rattle.model.proofs.ProgramsLedger.{Shape, shape_still, noted}

module _ (z : Sizes) where
  -- kept counts are true
  pub record Counted (s : State) (d : Device) : Type 0 where
    pub at_sizes : s.sizes ≡ z
    pub counts : all (count_agrees z d) s.writes ≡ true

  -- each cache bucket of a queue stands there once and is on the chip, outside the ledger; the free ones are blank, kept counts are true, and the
  -- ledger has its shape
  pub record Pool (s : State) (d : Device) : Type 0 where
    pub bounds : Limits z
    pub counted : Counted s d
    pub lens : Lengths z d
    pub in_chip : (c : ℕ) → 1 ≤ places s c → c < body z
    pub once : (c : ℕ) → places s c ≤ 1
    pub blanks : (c : ℕ) → 1 ≤ times c s.free → (k : ℕ) → k < z.p → tag_of z d c k ≡ ff 16
    pub ledger : Shape z d

  -- the programs of a plan rise, and Q holds of what it leaves
  pub record Rises (Q : State → Device → Type 0) (p : Plan) (d : Device) : Type 0 where
    pub rising : Rising z d p.stores
    pub left : Q p.state (apply_all z d p.stores)

  pub then_rises : (P Q : State → Device → Type 0) (f g : Step) (s : State) (d : Device) → s.sizes ≡ z → Rises P (f s d) d
      → Rises Q (g (f s d).state (apply_all z d (f s d).stores)) (apply_all z d (f s d).stores) → Rises Q ((f then g) s d) d
  unfolding ◌then◌
  then_rises P Q f g s d q a b =
      subst (λ (y : Sizes). Rises Q (record { stores = (f s d).stores ++ (g (f s d).state (apply_all y d (f s d).stores)).stores; state = (g (f s d).state (apply_all y d (f s d).stores)).state }) d) (sym q) (record {
        rising = rising_append z (f s d).stores (g (f s d).state (apply_all z d (f s d).stores)).stores d a.rising b.rising;
        left = subst (λ (e : Device). Q (g (f s d).state (apply_all z d (f s d).stores)).state e) (sym (apply_all_append z d (f s d).stores (g (f s d).state (apply_all z d (f s d).stores)).stores)) b.left;
      })

  pub nothing_rises : (Q : State → Device → Type 0) (s : State) (d e : Device) → Q s d → Rises Q (nothing s e) d
  unfolding nothing apply_all Rising
  nothing_rises Q s d e h = record { rising = tt; left = h }

  -- other queues, with no bucket that was in none, and a device that shows alike the buckets of which Pool speaks
  pub pool_moved : (s t : State) (d e : Device) → Pool s d → t.sizes ≡ s.sizes → Lengths z e → ((c : ℕ) → places t c ≤ places s c) → ((c : ℕ) → times c t.free ≤ times c s.free)
      → ((c : ℕ) → 1 ≤ times c (caches t.writes) + times c t.free → (k : ℕ) → k < z.p → tag_of z e c k ≡ tag_of z d c k) → all (count_agrees z d) t.writes ≡ true → Shape z e → Pool t e
  pool_moved s t d e pool q L fewer fewer-free same counts shape = record {
    bounds = pool.bounds;
    counted = record { at_sizes = q ∙ pool.counted.at_sizes; counts = counts_stay z d e t.writes (λ c h. same c (omega arith)) counts };
    lens = L;
    in_chip = λ c h. pool.in_chip c (omega (arith, fewer c));
    once = λ c. omega (arith, fewer c, pool.once c);
    blanks = λ c h k hk. same c (omega arith) k hk ∙ pool.blanks c (omega (arith, fewer-free c)) k hk;
    ledger = shape;
  }

  -- ---- Erase step, and Allocate

  -- the GC head erased
  module _ (s : State) (d : Device) (pool : Pool s d) (some : empty s.gc ≡ false) where
    count : (c : ℕ) → times c s.gc ≡ times c (head s.gc ∷ []) + times c (drop 1 s.gc)
    count c = times-rest c s.gc some

    in_body : head s.gc < body z
    in_body = pool.in_chip (head s.gc) (omega (arith, count (head s.gc), times_self (head s.gc)))

    on : head s.gc < z.c
    on = on_chip z (head s.gc) in_body

    other : (c : ℕ) → c ≢ head s.gc → (k : ℕ) → k < z.p → tag_of z (apply z d (erase (head s.gc))) c k ≡ tag_of z d c k
    other c ne = (same_erase z d pool.lens (head s.gc) on c ne).tags-same

    pub erased_ledger : (c k : ℕ) → body z ≤ c → k < z.p → tag_of z (apply z d (erase (head s.gc))) c k ≡ tag_of z d c k
    erased_ledger c k hc hk = other c (λ q. omega (arith, in_body)) k hk

    blank_now : (c : ℕ) → 1 ≤ times c (s.free ++ (head s.gc ∷ [])) → Dec (c ≡ head s.gc) → (k : ℕ) → k < z.p → tag_of z (apply z d (erase (head s.gc))) c k ≡ ff 16
    blank_now c h (yes q) k hk = rw q (tag_erased z d pool.lens (head s.gc) on k hk)
    blank_now c h (no ne) k hk = other c ne k hk ∙ pool.blanks c (omega (arith, times_append c s.free (head s.gc ∷ []), times_other c (head s.gc) ne)) k hk

    erased : Pool (moved s s.reads s.writes (drop 1 s.gc) (s.free ++ (head s.gc ∷ []))) (apply z d (erase (head s.gc)))
    unfolding moved
    erased = record {
      bounds = pool.bounds;
      counted = record {
        at_sizes = pool.counted.at_sizes;
        counts = counts_stay z d (apply z d (erase (head s.gc))) s.writes
            (λ c h. other c (λ q. omega (arith, count c, pool.once c, ap (λ (x : ℕ). times c (x ∷ [])) (sym q), times_self c))) pool.counted.counts;
      };
      lens = lengths_kept z d pool.lens (erase (head s.gc)) on;
      in_chip = λ c h. pool.in_chip c (omega (arith, count c, times_append c s.free (head s.gc ∷ [])));
      once = λ c. omega (arith, count c, times_append c s.free (head s.gc ∷ []), pool.once c);
      blanks = λ c h. blank_now c h (ℕ_discrete c (head s.gc));
      ledger = shape_still z d (apply z d (erase (head s.gc))) erased_ledger pool.ledger;
    }

  -- the entry for a bucket x
  pub noted_pool : (s : State) (d : Device) → Pool s d → (x : ℕ) → Pool s (apply_all z d (entry_stores z d x))
  noted_pool s d pool x =
      let note = noted z pool.bounds d pool.lens pool.ledger x in
      pool_moved s s d (apply_all z d (entry_stores z d x)) pool refl note.lens (λ c. omega arith) (λ c. omega arith)
      (λ c h k hk. note.others c k (pool.in_chip c (omega arith)) hk) pool.counted.counts note.shape

  pub erase_rises : (s : State) (d : Device) → Pool s d → Rises Pool (erase_step z s d) d
  unfolding erase_step noted_erase freed nothing moved Rising apply_all
  erase_rises s d pool = go (true_or_false (empty s.gc))
    where
      go : (empty s.gc ≡ true) ⊎ (empty s.gc ≡ false) → Rises Pool (erase_step z s d) d
      go (inl e) = rw e (record { rising = tt; left = pool })
      go (inr e) =
          let x = head s.gc in
          rw e (record {
            rising = rising_append z (entry_stores z d x) (erase x ∷ []) d (noted z pool.bounds d pool.lens pool.ledger x).rising tt;
            left = subst (λ (f : Device). Pool (freed s) f) (sym (apply_all_append z d (entry_stores z d x) (erase x ∷ []))) (erased s (apply_all z d (entry_stores z d x)) (noted_pool s d pool x) e);
          })

  pub room_rises : (s : State) (d : Device) → Pool s d → Rises Pool (make_room z s d) d
  unfolding make_room
  room_rises s d pool = go (true_or_false (empty s.free))
    where
      go : (empty s.free ≡ true) ⊎ (empty s.free ≡ false) → Rises Pool (make_room z s d) d
      go (inl f) = rw f (erase_rises s d pool)
      go (inr f) = rw f (nothing_rises Pool s d d pool)

  -- ---- a log in the free head

  module _ (s : State) (d : Device) (pool : Pool s d) (has_free : empty s.free ≡ false) (k e b off : ℕ) (bytes : List ℕ) (hk : k < 4) (fit : pages_for z (length bytes) ≤ z.p) where
    c_free : 1 ≤ times (head s.free) s.free
    c_free = omega (arith, times-rest (head s.free) s.free has_free, times_self (head s.free))

    c_in_body : head s.free < body z
    c_in_body = pool.in_chip (head s.free) (omega (arith, c_free))

    c_in : head s.free < z.c
    c_in = on_chip z (head s.free) c_in_body

    fits_there : 0 + pages_for z (length bytes) ≤ z.p
    fits_there = omega arith

    start : Stage z (head s.free) 0 d 0 d
    start = record {
      lens = pool.lens;
      used = λ i h. absurd (omega arith);
      rest = λ i lo hi. ap blank (pool.blanks (head s.free) c_free i hi) ∙ blank-ff;
      others = λ x i ne hi. refl;
    }

    pub taken_rises : Rising z d (log_stores z (head s.free) 0 k e b off bytes)
    taken_rises = log_rises z (head s.free) 0 k e b off bytes c_in hk fits_there d start

    pub taken_stage : Stage z (head s.free) 0 d (pages_for z (length bytes)) (apply_all z d (log_stores z (head s.free) 0 k e b off bytes))
    taken_stage = log_stage z (head s.free) 0 k e b off bytes c_in hk fits_there d start

    -- a bucket that stands elsewhere
    pub taken_other : (c : ℕ) → 1 ≤ times c (caches s.writes) + times c (drop 1 s.free) → (i : ℕ) → i < z.p → tag_of z (apply_all z d (log_stores z (head s.free) 0 k e b off bytes)) c i ≡ tag_of z d c i
    taken_other c h i hi = taken_stage.others c i (λ q. omega (arith, times-rest c s.free has_free, pool.once c, ap (λ (y : ℕ). times c (y ∷ [])) (sym q), times_self c)) hi

    pub taken_ledger : (c i : ℕ) → body z ≤ c → i < z.p → tag_of z (apply_all z d (log_stores z (head s.free) 0 k e b off bytes)) c i ≡ tag_of z d c i
    taken_ledger c i hc hi = taken_stage.others c i (λ q. omega (arith, c_in_body)) hi

  -- ---- a copy

  pub copy_rises : (s : State) (d : Device) → Pool s d → (empty s.free ≡ false) ⊎ (empty s.gc ≡ false) → (k b : ℕ) (bytes : List ℕ) → k < 4 → pages_for z (length bytes) ≤ z.p → Rises Pool (copy z k b bytes s d) d
  unfolding copy fill_copy take_copy taken moved entry
  copy_rises s d pool some k b bytes hk fit =
      let room = room_rises s d pool in
      let roomy = room_there z s d some in
      let t = (make_room z s d).state in
      let e = apply_all z d (make_room z s d).stores in
      let stage = taken_stage t e room.left roomy.has_free k t.next b 0 bytes hk fit in
      then_rises Pool Pool (make_room z) (fill_copy z k b bytes) s d pool.counted.at_sizes room
      (record {
        rising = taken_rises t e room.left roomy.has_free k t.next b 0 bytes hk fit;
        left = pool_moved t (take_copy b t) e _ room.left refl stage.lens
            (λ c. omega (arith, times-rest c t.free roomy.has_free, times_grown (entry b (head t.free) 0) (without b t.reads) c, times_left t.reads b c, times_append c t.gc (caches_of b t.reads)))
            (λ c. omega (arith, times-rest c t.free roomy.has_free)) (taken_other t e room.left roomy.has_free k t.next b 0 bytes hk fit) room.left.counted.counts
            (shape_still z e _ (taken_ledger t e room.left roomy.has_free k t.next b 0 bytes hk fit) room.left.ledger);
      })

  -- ---- units

  pub units_rise : (s : State) (d : Device) → Pool s d → (b : ℕ) → b < z.b → (bytes : List ℕ) → length bytes ≡ bucket_size z → Rises Pool (write_out z b bytes s d) d
  unfolding write_out unit_stores unit_store bucket_size
  units_rise s d pool b hb bytes len = record {
    rising = none_rise z (unit_stores z b bytes) (none_units z b bytes) d;
    left = let after = row_end z (λ o e. Lengths z e × ((c k : ℕ) → tag_of z e c k ≡ tag_of z d c k)) (unit_store z b bytes) z.p next d (pool.lens, λ c k. refl) in
        pool_moved s s d (apply_all z d (unit_stores z b bytes)) pool refl after.0 (λ c. omega arith) (λ c. omega arith) (λ c q k hk. after.1 c k) pool.counted.counts
        (shape_still z d _ (λ c i hc hi. after.1 c i) pool.ledger);
  }
    where
      next : (o : ℕ) (e : Device) → o < z.p → Lengths z e × ((c k : ℕ) → tag_of z e c k ≡ tag_of z d c k)
          → Lengths z (apply z e (unit_store z b bytes o)) × ((c k : ℕ) → tag_of z (apply z e (unit_store z b bytes o)) c k ≡ tag_of z d c k)
      next o e ho q = (
        lengths_kept z e q.0 (unit_store z b bytes o) (place_fits b o z.b z.p hb ho, length-part-fits bytes (o * z.s) z.s (rw len (row_fits_lem o z.p z.s ho))),
        λ c k. tag_unit z e (b * z.p + o) (part bytes (o * z.s) z.s) c k ∙ q.1 c k,
      )

-- Steps that write a back-end bucket's units, and the read queue's moves without a copy: the least recent bucket leaves, a bucket is made most recent.
use Prim.Native.Nat.{ℕ, ◌≤◌, ◌<◌}
use mathlib.Core.Path.{◌≡◌, refl, sym, ap, ◌∙◌, subst}
use mathlib.Core.Logic.{◌⊎◌, inl, inr}
use mathlib.Core.Bool.{true, false}
use mathlib.Core.List.{List, [], ◌∷◌, ◌++◌, map}
use native.Mathlib.Omega.{arith}
use native.Mathlib.Decide.{ℕ_discrete}
use lib.ListN.{length, drop, get_or, length-append, length-map}
use lib.Dec.{ltb}
use borrow.Author.Tests.{ltb-false}
use Rattle.std.specs.Prelude.{if◌then◌else◌}
use Rattle.lists.specs.Lists.{times, distinct}
use Rattle.lists.proofs.Tests.{true_or_false}
use Rattle.model.specs.declared.Sizes.{Sizes}
use Rattle.model.specs.declared.Entry.{Entry}
use Rattle.model.specs.Sizes.{Device, bucket_size}
use Rattle.model.specs.Stores.{apply_all, bucket_bytes, disk_bytes, unit_stores}
use Rattle.model.specs.Image.{is_dirty}
use Rattle.model.specs.State.{State, moved, entry, caches_of, without, backs, holds, cache_of, is_marked, remarked}
use Rattle.model.specs.Operations.{touch, drop_oldest, without_oldest, set_mark}
use Rattle.model.proofs.Views.{Lay, SafeAt, copied, uncopied, lay_base}
use Rattle.model.proofs.Limits.{Limits, on_chip}
use Rattle.model.proofs.Safe.{view, holds_of, plain_at, Safe, Cuts, Absorbed}
use Rattle.model.proofs.Frames.{length_bucket}
use Rattle.model.proofs.Show.{is_dirty-same, same_refl}
use Rattle.model.proofs.Units.{Allowed, dirty_copy, fits_at_lem, Written, units_along, units_written}
use Rattle.model.proofs.Buckets.{holds_parts}
use Rattle.model.proofs.Queues.{Maps, maps_here, absent_without, without_here, without_absent, caches_of_one, distinct-rest, times-without, length_without, maps_times, without_maps}
use Rattle.model.proofs.QueuesGrown.{times_grown, maps_older, maps_newest, caches-map, holds-map}
use Rattle.model.proofs.QueuesShown.{reads_without, reads_grown}
use Rattle.model.proofs.QueuesErased.{gone, gone_disk}
use Rattle.model.proofs.Findable.{Findable}
use Rattle.model.proofs.FindableRuns.{Each, Harmless, units_harmless, ledger_runs, along_cuts}
use Rattle.model.proofs.Inside.{Inside, lens, one_place, gc_below, swept_safe, read_same, read_back, who_holds}
use Rattle.model.proofs.Steps.{Good, nothing_good}
use Rattle.model.proofs.StepsDrop.{same_inside, requeued, read_dropped}
use Rattle.model.proofs.Marks.{keeps_remarked, marked_held, remarked_other, writes_remarked, marks_kept}

-- the first entry of a queue
pub record Oldest (l : List Entry) (o : Entry) : Type 0 where
  pub rest_is : drop 1 l ≡ without o.back l
  pub cache_is : o.cache ∷ [] ≡ caches_of o.back l
  pub maps_it : Maps l o.back o.cache

pub oldest : (l : List Entry) → distinct (backs l) ≡ true → 1 ≤ length l → Oldest l (get_or l 0 (entry 0 0 0))
oldest [] ds h = absurd (omega arith)
oldest (e ∷ l) ds h = record {
  rest_is = sym (without_here e l e.back refl ∙ without_absent l e.back (distinct-rest e l ds).1);
  cache_is = sym (caches_of_one (e ∷ l) e.back e.cache (maps_here e l e.back refl));
  maps_it = maps_here e l e.back refl;
}

module _ (z : Sizes) (B : Limits z) (plain : List ℕ) (s : State) (d : Device) (j : Inside z plain s d) where
  -- ---- units

  module _ (b : ℕ) (hb : b < z.b) (bytes : List ℕ) (len : length bytes ≡ bucket_size z) (allowed : Allowed z B plain s.gc (gc_below z plain s d j) b hb bytes len d) where
    harmless : Each (Harmless z d) (unit_stores z b bytes)
    harmless = units_harmless z d b bytes (fits_at_lem z B plain s.gc (gc_below z plain s d j) b hb bytes len)

    pub units_cuts : Cuts z (Findable z plain) d (unit_stores z b bytes)
    units_cuts = along_cuts z B.p_low plain (unit_stores z b bytes) d s.next j.next_high harmless j.ledger
        (units_along z B plain s.gc (gc_below z plain s d j) b hb bytes len d j.chip j.ready allowed)

    pub units_are : Written z B plain s.gc (gc_below z plain s d j) b hb bytes len d (apply_all z d (unit_stores z b bytes))
    units_are = units_written z B plain s.gc (gc_below z plain s d j) b hb bytes len d j.chip j.ready allowed

    pub units_inside : Inside z plain s (apply_all z d (unit_stores z b bytes))
    units_inside = same_inside z B.p_low plain s d (apply_all z d (unit_stores z b bytes)) j units_are.chip
        (ledger_runs z B.p_low (unit_stores z b bytes) d s.next (lens z plain s d j) harmless j.ledger) units_are.ready units_are.still

  -- ---- the least recent read bucket

  -- a read bucket whose logs over the disk give the plain bytes: it is not Dirty, or the disk has its bytes
  lay_disk : (b r : ℕ) → Maps s.reads b r → (is_dirty z d r ≡ false) ⊎ (disk_bytes z d b ≡ bucket_bytes z d r) → SafeAt (view z (gone z d s.gc)) b (plain_at z plain b)
      → (i : ℕ) → Lay (view z (gone z d s.gc)) b ((view z (gone z d s.gc)).disk b) i (plain_at z plain b i)
  lay_disk b r m o (uncopied n l) = l
  lay_disk b r m o (copied c nw l ld) = go o
    where
      is_r : c ≡ r
      is_r = sym (who_holds z plain s d j B.p_low c b nw.0).is ∙ m.is

      go : (is_dirty z d r ≡ false) ⊎ (disk_bytes z d b ≡ bucket_bytes z d r) → (i : ℕ) → Lay (view z (gone z d s.gc)) b ((view z (gone z d s.gc)).disk b) i (plain_at z plain b i)
      go (inl q) = ld (ap (is_dirty z (gone z d s.gc)) is_r ∙ (is_dirty-same z B.p_low d (gone z d s.gc) r (read_same z plain s d j b r m) ∙ q))
      go (inr q) = λ i. lay_base (l i) (inl (ap (λ (y : List ℕ). get_or y i 0)
          (gone_disk z s.gc (gc_below z plain s d j) d (lens z plain s d j) b ∙ (q ∙ (sym (read_same z plain s d j b r m).bytes_same ∙ ap (bucket_bytes z (gone z d s.gc)) (sym is_r))))))

  pub read_leaves : (b r : ℕ) → Maps s.reads b r → (is_dirty z d r ≡ false) ⊎ (disk_bytes z d b ≡ bucket_bytes z d r)
      → Inside z plain (moved s (without b s.reads) (map (remarked b false) s.writes) (s.gc ++ caches_of b s.reads) s.free) d
  unfolding Safe
  read_leaves b r m o = read_dropped z B.p_low plain s d j b r m (lay_disk b r m o (swept_safe z plain s d j b))

module _ (z : Sizes) (B : Limits z) (plain : List ℕ) (s : State) (d : Device) (j : Inside z plain s d) where
  -- "Dirty: write its P units first"
  left_good : (b r : ℕ) → Maps s.reads b r → Good z plain (record {
    stores = if is_dirty z d r then unit_stores z b (bucket_bytes z d r) else [];
    state = moved s (without b s.reads) (map (remarked b false) s.writes) (s.gc ++ caches_of b s.reads) s.free;
  }) d
  unfolding apply_all
  left_good b r m = go (true_or_false (is_dirty z d r))
    where
      held : holds_of z d r b ≡ true
      held = j.reads.copies b r m

      len : length (bucket_bytes z d r) ≡ bucket_size z
      len = length_bucket z d (lens z plain s d j) r (on_chip z r (holds_parts z d r b held).0)

      hb : b < z.b
      hb = read_back z plain s d j B.p_low b r m

      go : (is_dirty z d r ≡ true) ⊎ (is_dirty z d r ≡ false) → Good z plain (record {
        stores = if is_dirty z d r then unit_stores z b (bucket_bytes z d r) else [];
        state = moved s (without b s.reads) (map (remarked b false) s.writes) (s.gc ++ caches_of b s.reads) s.free;
      }) d
      go (inr q) = rw q (tt, read_leaves z B plain s d j b r m (inl q))
      go (inl q) =
          let a : Allowed z B plain s.gc (gc_below z plain s d j) b hb (bucket_bytes z d r) len d =
          dirty_copy r (λ t. omega (arith, one_place z plain s d j r, maps_times s.reads b r m)) held q (j.reads.newest-copy b r m) in
          let e = apply_all z d (unit_stores z b (bucket_bytes z d r)) in
          let w = units_are z B plain s d j b hb (bucket_bytes z d r) len a in
          rw q (
            units_cuts z B plain s d j b hb (bucket_bytes z d r) len a,
            read_leaves z B plain s e (units_inside z B plain s d j b hb (bucket_bytes z d r) len a) b r m (inr (w.disk_is ∙ sym (w.still r).bytes_same)),
          )

  pub oldest_good : Good z plain (drop_oldest z s d) d
  unfolding drop_oldest without_oldest
  oldest_good = go (true_or_false (ltb (length s.reads) z.r))
    where
      go : (ltb (length s.reads) z.r ≡ true) ⊎ (ltb (length s.reads) z.r ≡ false) → Good z plain (drop_oldest z s d) d
      go (inl f) = rw f (nothing_good z plain s d d j)
      go (inr f) =
          let o = oldest s.reads j.reads.read_once (omega (arith, ltb-false (length s.reads) z.r f, B.r_low)) in
          rw (f, o.rest_is, o.cache_is) (left_good (get_or s.reads 0 (entry 0 0 0)).back (get_or s.reads 0 (entry 0 0 0)).cache o.maps_it)

  -- ---- made most recent

  pub touch_inside : (b r : ℕ) → Maps s.reads b r → Inside z plain (touch b s) d
  unfolding touch moved entry
  touch_inside b r m = rw (caches_of_one s.reads b r m) (requeued z plain s d j (without b s.reads ++ (entry b r 0 ∷ [])) s.writes s.gc j.ready
      (λ c. omega (arith, times_grown (entry b r 0) (without b s.reads) c, times-without s.reads b j.reads.read_once c, ap (times c) (caches_of_one s.reads b r m)))
      (reads_grown z d (without b s.reads) (entry b r 0) (absent_without s.reads b) (j.reads.copies b r m) (j.reads.newest-copy b r m) (reads_without z d s.reads b j.reads))
      j.writes
      (marks_kept z plain B.p_low d d s.reads (without b s.reads ++ (entry b r 0 ∷ [])) s.writes (λ b' c h q. (again b' c q (ℕ_discrete b b'), same_refl z d c)) j.marks)
      (rw (length-append (without b s.reads) (entry b r 0 ∷ [])) (omega (arith, length_without s.reads b, ap length (caches_of_one s.reads b r m), j.few_reads)))
      j.few_writes)
    where
      again : (b' c : ℕ) → Maps s.reads b' c → Dec (b ≡ b') → Maps (without b s.reads ++ (entry b r 0 ∷ [])) b' c
      again b' c q (no ne) = maps_older (entry b r 0) (without b s.reads) b' c (without_maps s.reads b b' c ne q)
      again b' c q (yes e) =
          subst (λ (y : ℕ). Maps (without b s.reads ++ (entry b r 0 ∷ [])) y c) e
          (subst (λ (y : ℕ). Maps (without b s.reads ++ (entry b r 0 ∷ [])) b y) (sym m.is ∙ (ap (λ (y : ℕ). cache_of y s.reads) e ∙ q.is)) (maps_newest (entry b r 0) (without b s.reads) (absent_without s.reads b)))

  -- ---- a mark set

  pub mark_inside : (b : ℕ) → (holds b s.writes ≡ true → Absorbed z plain d s.reads b) → Inside z plain (set_mark b s) d
  unfolding set_mark
  mark_inside b own = requeued z plain s d j s.reads (map (remarked b true) s.writes) s.gc j.ready
      (λ c. omega (arith, ap (times c) (caches-map (remarked b true) (keeps_remarked b true) s.writes)))
      j.reads (writes_remarked z d s.writes b true j.writes) marks j.few_reads (rw (length-map s.writes (remarked b true)) j.few_writes)
    where
      marks : (b' : ℕ) → is_marked b' (map (remarked b true) s.writes) ≡ true → Absorbed z plain d s.reads b'
      marks b' h = go (ℕ_discrete b' b)
        where
          go : Dec (b' ≡ b) → Absorbed z plain d s.reads b'
          go (no ne) = j.marks b' (remarked_other b true s.writes b' ne h)
          go (yes q) = rw q (own (sym (holds-map (remarked b true) (keeps_remarked b true) s.writes b) ∙ marked_held (map (remarked b true) s.writes) b (rw q at h)))

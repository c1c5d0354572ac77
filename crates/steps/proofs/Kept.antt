-- Steps leave the state orderly, and Allocate finds a bucket again.
use Prim.Native.Nat.{ℕ, ◌<◌}
use mathlib.Core.Path.{◌≡◌, refl, sym, ◌∙◌}
use mathlib.Core.Bool.{true, false}
use mathlib.Core.Logic.{◌⊎◌, inl, inr}
use mathlib.Core.List.{[], ◌∷◌, ◌++◌}
use native.Mathlib.Omega.{arith}
use lib.ListN.{length, length-append}
use borrow.Author.Tests.{eqb-true, ne_eqb}
use Rattle.lists.specs.Lists.{empty, head}
use Rattle.lists.proofs.Tests.{true_or_false}
use Rattle.lists.proofs.Arrays.{empty-length}
use Rattle.model.specs.declared.Sizes.{Sizes}
use Rattle.model.specs.Sizes.{Device, body}
use Rattle.model.specs.State.{State, moved, entry, holds, caches_of, without}
use Rattle.model.specs.Steps.{make_room, erase_step, nothing, freed, taken, drop_write, take_copy}
use Rattle.state.proofs.Bounds.{freed_bounded, drop-write_bounded, take-copy_bounded}
use Rattle.state.proofs.Queued.{head-below}
use Rattle.steps.specs.Ready.{Orderly, Ready}
use Rattle.steps.proofs.Inside.{both_inside, rest_inside, one_inside, joined_inside, caches_inside, others_inside}

-- some bucket may stand in queues
pub body-some : {s : State} → Orderly s → 0 < body s.sizes
body-some o = omega (arith, o.limits.room)

-- ---- Allocate's room

-- t is s with a bucket free, else as it was
pub record Roomed (s t : State) : Type 0 where
  pub orderly : Orderly t
  pub some : empty t.free ≡ false
  pub sizes : t.sizes ≡ s.sizes
  pub reads : t.reads ≡ s.reads
  pub writes : t.writes ≡ s.writes
  pub next : t.next ≡ s.next

-- the bucket that is taken next
pub free_head : {s t : State} → Roomed s t → head t.free < body s.sizes
free_head {s} {t} r = rw r.sizes at (head-below (body t.sizes) t.free r.orderly.free r.some)

module _ (s : State) (ready : Ready s) where
  gc_some : empty s.free ≡ true → empty s.gc ≡ false
  gc_some e =
      let none : length s.free ≡ 0 = eqb-true (length s.free) 0 (sym (empty-length s.free) ∙ e) in
      empty-length s.gc ∙ ne_eqb (length s.gc) 0 (λ h. omega (arith, ready.some))

  gc_head : empty s.free ≡ true → head s.gc < body s.sizes
  gc_head e = head-below (body s.sizes) s.gc ready.orderly.gc (gc_some e)

  pub roomed : (z : Sizes) (d : Device) → Roomed s (make_room z s d).state
  unfolding make_room erase_step nothing freed moved
  roomed z d = go (true_or_false (empty s.free))
    where
      o : Orderly s
      o = ready.orderly

      go : (empty s.free ≡ true) ⊎ (empty s.free ≡ false) → Roomed s (make_room z s d).state
      go (inr e) = rw e (record { orderly = o; some = e; sizes = refl; reads = refl; writes = refl; next = refl })
      go (inl e) =
          let g = gc_some e in
          let b = freed_bounded s o.bounded g in
          rw (e, g)
          (record {
            orderly = record {
              limits = o.limits;
              bounded = b;
              reads = o.reads;
              writes = o.writes;
              gc = rest_inside (body s.sizes) s.gc o.gc;
              free = both_inside (body s.sizes) s.free (head s.gc ∷ []) o.free (one_inside (body s.sizes) (head s.gc) (gc_head e));
            };
            some = empty-length (s.free ++ (head s.gc ∷ [])) ∙ ne_eqb (length (s.free ++ (head s.gc ∷ []))) 0 (λ h. omega (arith, simp length-append at h));
            sizes = refl;
            reads = refl;
            writes = refl;
            next = refl;
          })

-- ---- a copy, and a Write bucket gone

module _ (b : ℕ) (s : State) (o : Orderly s) where
  pub copied_orderly : empty s.free ≡ false → length (without b s.reads) < 64 → s.next < 18446744073709551615 → Orderly (take_copy b s)
  unfolding take_copy taken moved entry
  copied_orderly some few low =
      let c = body s.sizes in
      let bounded = take-copy_bounded s o.bounded b some few low in
      record {
        limits = o.limits;
        bounded = bounded;
        reads = joined_inside c (without b s.reads) (entry b (head s.free) 0) (others_inside c b s.reads o.reads) (head-below c s.free o.free some);
        writes = o.writes;
        gc = both_inside c s.gc (caches_of b s.reads) o.gc (caches_inside c b s.reads o.reads (body-some o));
        free = rest_inside c s.free o.free;
      }

  pub dropped_orderly : Orderly (drop_write b s)
  unfolding drop_write moved
  dropped_orderly =
      let c = body s.sizes in
      let bounded = drop-write_bounded s o.bounded b in
      record {
        limits = o.limits;
        bounded = bounded;
        reads = o.reads;
        writes = others_inside c b s.writes o.writes;
        gc = both_inside c s.gc (caches_of b s.writes) o.gc (caches_inside c b s.writes o.writes (body-some o));
        free = o.free;
      }

  -- the Write bucket itself may be erased next
  pub dropped_ready : holds b s.writes ≡ true → Ready (drop_write b s)
  unfolding drop_write moved caches_of
  dropped_ready h = record {
    orderly = dropped_orderly;
    some = rw h (simp length-append (omega arith));
  }

-- A read keeps the invariant, and what a read call owes.
use Prim.Native.Nat.{ℕ, ◌<◌}
use mathlib.Core.Path.{◌≡◌, refl, subst, sym, ap, ◌∙◌}
use mathlib.Core.Logic.{◌⊎◌, inl, inr}
use mathlib.Core.Bool.{true, false, true≢false}
use mathlib.Core.List.{List}
use native.Mathlib.Omega.{arith}
use lib.ListN.{length, get_or, length-drop}
use lib.Dec.{ltb}
use borrow.Author.Tests.{ltb-true, ltb-false, eq-eqb}
use Rattle.lists.proofs.Tests.{true_or_false, and_left}
use Rattle.model.specs.declared.Sizes.{Sizes}
use Rattle.model.specs.Sizes.{Device, limits, bucket_size}
use Rattle.model.specs.Spare.{read_kind, dirty_kind}
use Rattle.model.specs.State.{State, moved, entry, holds, cache_of, without, is_marked, remarked}
use Rattle.model.specs.Steps.{nothing, ◌then◌, move, merged, copy}
use Rattle.model.specs.Operations.{last_epoch, touch, drop_oldest, read, without_oldest, is_current, set_mark, make_place, read_copy}
use Rattle.model.specs.Calls.{read_call, plan_of}
use Rattle.model.specs.Promise.{feed}
use Rattle.model.proofs.Limits.{Limits, limits_of}
use Rattle.model.proofs.Safe.{plain_at}
use Rattle.model.proofs.Invariant.{Inv, Owed, Pays}
use Rattle.model.proofs.Queues.{absent, maps_without}
use Rattle.model.proofs.QueuesMerged.{length_merged, merged-plain}
use Rattle.model.proofs.Inside.{Inside}
use Rattle.model.proofs.InsideLive.{inside}
use Rattle.model.proofs.Steps.{Good, nothing_good, then_good}
use Rattle.model.proofs.StepsUnits.{oldest, oldest_good, touch_inside, mark_inside}
use Rattle.model.proofs.StepsProgram.{copy_good, copy-fresh}
use Rattle.model.proofs.Calling.{read_passed, pays_good}
use Rattle.model.proofs.QueuesGrown.{holds-map}
use Rattle.model.proofs.Marks.{keeps_remarked}

module _ (z : Sizes) (B : Limits z) (plain : List ℕ) (s : State) (d : Device) (j : Inside z plain s d) where
  -- ---- after the least recent bucket left, if the queue was full

  record Left (t : State) : Type 0 where
    next_same : t.next ≡ s.next
    fewer : length t.reads < z.r
    absent_still : (b : ℕ) → holds b s.reads ≡ false → holds b t.reads ≡ false
    writes_held : (b : ℕ) → holds b t.writes ≡ holds b s.writes

  left : Left (drop_oldest z s d).state
  unfolding drop_oldest without_oldest nothing moved
  left = go (true_or_false (ltb (length s.reads) z.r))
    where
      go : (ltb (length s.reads) z.r ≡ true) ⊎ (ltb (length s.reads) z.r ≡ false) → Left (drop_oldest z s d).state
      go (inl f) = rw f (record { next_same = refl; fewer = ltb-true (length s.reads) z.r f; absent_still = λ b n. n; writes_held = λ b. refl })
      go (inr f) =
          let o = oldest s.reads j.reads.read_once (omega (arith, ltb-false (length s.reads) z.r f, B.r_low)) in
          rw f (record {
            next_same = refl;
            fewer = rw (length-drop 1 s.reads) (omega (arith, j.few_reads, B.r_low));
            writes_held = λ b. holds-map (remarked (get_or s.reads 0 (entry 0 0 0)).back false) (keeps_remarked (get_or s.reads 0 (entry 0 0 0)).back false) s.writes b;
            absent_still = λ b n. rw o.rest_is (out (get_or s.reads 0 (entry 0 0 0)).back b n (true_or_false (holds b (without (get_or s.reads 0 (entry 0 0 0)).back s.reads))));
          })
        where
          out : (b' b : ℕ) → holds b s.reads ≡ false → (holds b (without b' s.reads) ≡ true) ⊎ (holds b (without b' s.reads) ≡ false) → holds b (without b' s.reads) ≡ false
          out b' b n (inr q) = q
          out b' b n (inl q) = absurd (absent n (maps_without s.reads b' b _ (record { held = q; is = refl })).1)

  -- ---- a read of b

  module _ (b : ℕ) (hb : b < z.b) where
    abbrev bytes : List ℕ
    bytes = merged z s d b

    len : length (merged z s d b) ≡ bucket_size z
    len = length_merged z B.p_low (omega (arith, B.s_low)) plain s d j b hb

    plain_bytes : (i : ℕ) → i < bucket_size z → get_or (merged z s d b) i 0 ≡ plain_at z plain b i
    plain_bytes i h = merged-plain z B.p_low (omega (arith, B.s_low)) plain s d j b hb i

    hit : is_current b s ≡ true → Good z plain (move (touch b) s d) d
    unfolding move is_current
    hit c = nothing_good z plain (touch b s) d d (touch_inside z B plain s d j b (cache_of b s.reads) (record { held = and_left _ _ c; is = refl }))

    -- ---- a place for the copy

    -- a record without a read bucket is not marked
    unmarked : (t : State) (e : Device) → Inside z plain t e → holds b t.reads ≡ false → is_marked b t.writes ≡ false
    unmarked t e i n = go (true_or_false (is_marked b t.writes))
      where
        go : (is_marked b t.writes ≡ true) ⊎ (is_marked b t.writes ≡ false) → is_marked b t.writes ≡ false
        go (inr q) = q
        go (inl q) = absurd (absent n (i.marks b q).maps)

    -- where both hit, there are logs that are not in the copy
    stale : is_current b s ≡ false → holds b s.reads ≡ true → (holds b s.writes ≡ true) × (is_marked b s.writes ≡ false)
    unfolding is_current
    stale c r = go (true_or_false (holds b s.writes))
      where
        go : (holds b s.writes ≡ true) ⊎ (holds b s.writes ≡ false) → (holds b s.writes ≡ true) × (is_marked b s.writes ≡ false)
        go (inl w) = (w, rw (r, w) at c)
        go (inr w) = absurd (true≢false (rw (r, w) at c))

    record Placed (t : State) : Type 0 where
      next_same : t.next ≡ s.next
      writes_held : holds b t.writes ≡ holds b s.writes
      no_mark : is_marked b t.writes ≡ false
      fewer : (holds b t.reads ≡ true) ⊎ (length t.reads < z.r)
      alone : holds b s.writes ≡ false → holds b t.reads ≡ false

    placed : is_current b s ≡ false → Good z plain (make_place z b s d) d × Placed (make_place z b s d).state
    unfolding make_place nothing
    placed c = go (true_or_false (holds b s.reads))
      where
        go : (holds b s.reads ≡ true) ⊎ (holds b s.reads ≡ false) → Good z plain (make_place z b s d) d × Placed (make_place z b s d).state
        go (inl r) = rw r (
          nothing_good z plain s d d j,
          record {
            next_same = refl;
            writes_held = refl;
            no_mark = (stale c r).1;
            fewer = inl r;
            alone = λ w. absurd (true≢false (sym (stale c r).0 ∙ w));
          },
        )
        go (inr r) =
            let first = oldest_good z B plain s d j in
            let none = left.absent_still b r in
            rw r (
              first,
              record {
                next_same = left.next_same;
                writes_held = left.writes_held b;
                no_mark = unmarked _ _ first.1 none;
                fewer = inr left.fewer;
                alone = λ w. none;
              },
            )

    -- ---- the copy

    -- Dirty if b has a Write bucket; then b's mark may be set
    module _ (k : ℕ) (hk : (k ≡ read_kind) ⊎ (k ≡ dirty_kind)) (t : State) (e : Device) (i : Inside z plain t e) (room : t.next < 4294967296)
        (alone : k ≡ read_kind → holds b t.reads ≡ false) (no_mark : is_marked b t.writes ≡ false) (logs : holds b t.writes ≡ true → k ≡ dirty_kind)
        (fewer : (holds b t.reads ≡ true) ⊎ (length t.reads < z.r)) where
      copies : Good z plain ((copy z k b (merged z s d b) then move (set_mark b)) t e) e
      unfolding move
      copies =
          let first = copy_good z B plain b k hb hk bytes len plain_bytes t e i room alone no_mark fewer in
          let f = copy-fresh z B plain b k hb hk bytes len plain_bytes t e i room alone no_mark in
          then_good z plain (copy z k b bytes) (move (set_mark b)) t e i.sizes_are first
          (nothing_good z plain (set_mark b (copy z k b bytes t e).state) _ _ (mark_inside z B plain (copy z k b bytes t e).state _ first.1 b
          (λ h. record { cache = f.cache; maps = f.maps; dirty = f.dirty ∙ eq-eqb k dirty_kind (logs (ap (holds b) (sym f.writes_same) ∙ h)); content = f.content })))

    copied : is_current b s ≡ false → s.next < 4294967296 → Good z plain (read_copy z b (merged z s d b) s d) d
    unfolding read_copy
    copied c room = go (true_or_false (holds b s.writes))
      where
        whole : (k : ℕ) → (k ≡ read_kind) ⊎ (k ≡ dirty_kind) → (k ≡ read_kind → holds b s.writes ≡ false) → (holds b s.writes ≡ true → k ≡ dirty_kind)
            → Good z plain ((make_place z b then copy z k b bytes then move (set_mark b)) s d) d
        whole k hk no_logs logs =
            let p = placed c in
            then_good z plain (make_place z b) (copy z k b bytes then move (set_mark b)) s d j.sizes_are p.0
            (copies k hk (make_place z b s d).state _ p.0.1 (rw p.1.next_same room) (λ q. p.1.alone (no_logs q)) p.1.no_mark
            (λ h. logs (sym p.1.writes_held ∙ h)) p.1.fewer)

        go : (holds b s.writes ≡ true) ⊎ (holds b s.writes ≡ false) → Good z plain (read_copy z b bytes s d) d
        go (inl w) = rw w (whole dirty_kind (inr refl) (λ q. absurd (omega arith)) (λ q. refl))
        go (inr w) = rw w (whole read_kind (inl refl) (λ q. w) (λ q. absurd (true≢false (sym q ∙ w))))

    pub read_good : Good z plain (read z b s d) d
    unfolding read
    read_good = go (true_or_false (ltb last_epoch s.next)) (true_or_false (is_current b s))
      where
        go : (ltb last_epoch s.next ≡ true) ⊎ (ltb last_epoch s.next ≡ false) → (is_current b s ≡ true) ⊎ (is_current b s ≡ false) → Good z plain (read z b s d) d
        go (inl e) c = rw e (nothing_good z plain s d d j)
        go (inr e) (inl c) = rw (e, c) (hit c)
        go (inr e) (inr c) = rw (e, c) (copied c (omega (arith, ltb-false last_epoch s.next e)))

pub read_pays : (z : Sizes) (b off : ℕ) (buffer : List ℕ) → Pays z (read_call b off buffer)
unfolding plan_of feed
read_pays z b off buffer s d plain fits i r =
    subst (λ (y : Sizes). limits y ≡ true → Inv y s d plain → Owed y (read_call b off buffer) s d plain) i.sizes_are own fits i
  where
    own : limits s.sizes ≡ true → Inv s.sizes s d plain → Owed s.sizes (read_call b off buffer) s d plain
    own f i' =
        let pass = read_passed s d b off buffer r in
        let B = limits_of s.sizes f in
        pays_good s.sizes B.p_low (read_call b off buffer) s d plain refl
        (read_good s.sizes B plain s d (inside s.sizes s d plain i' pass.0.runs) b pass.1.b_in)

-- Evicting a Write bucket keeps the invariant.
use Prim.Native.Nat.{ℕ, ◌+◌, ◌≤◌, ◌<◌}
use mathlib.Core.Path.{◌≡◌, refl, sym, ap, ◌∙◌, subst}
use mathlib.Core.Logic.{◌⊎◌, inl, inr}
use mathlib.Core.Bool.{true, false}
use mathlib.Core.List.{List}
use native.Mathlib.Omega.{arith}
use lib.ListN.{length, get_or}
use borrow.Author.Tests.{eq-eqb}
use Rattle.lists.proofs.Tests.{true_or_false}
use Rattle.model.specs.declared.Sizes.{Sizes}
use Rattle.model.specs.declared.Entry.{Entry}
use Rattle.model.specs.Sizes.{Device, bucket_size}
use Rattle.model.specs.Stores.{apply_all}
use Rattle.model.specs.Spare.{dirty_kind}
use Rattle.model.specs.State.{State, moved, holds, is_marked, without}
use Rattle.model.specs.Steps.{Step, nothing, ◌then◌, move, drop_write, merged, copy, write_out, evict}
use Rattle.model.proofs.Limits.{Limits}
use Rattle.model.proofs.Safe.{plain_at}
use Rattle.model.proofs.Units.{Allowed, plain_bytes}
use Rattle.model.proofs.Queues.{Maps}
use Rattle.model.proofs.QueuesMerged.{length_merged, merged-plain}
use Rattle.model.proofs.Inside.{Inside, gc_below, write-back}
use Rattle.model.proofs.Steps.{Good, nothing_good, then_good}
use Rattle.model.proofs.StepsDrop.{Stored, in_copy, on_disk, write_dropped}
use Rattle.model.proofs.StepsUnits.{units_cuts, units_are, units_inside}
use Rattle.model.proofs.StepsProgram.{copy_good, copy-fresh}

-- b's Write bucket has left
pub record Evicted (b : ℕ) (s t : State) : Type 0 where
  pub writes_are : t.writes ≡ without b s.writes
  pub next_near : t.next ≤ s.next + 1

module _ (z : Sizes) (B : Limits z) (plain : List ℕ) (s : State) (d : Device) (j : Inside z plain s d) (b w : ℕ) (m : Maps s.writes b w) where
  hb : b < z.b
  hb = write-back z plain s d j B.p_low b w m

  len : length (merged z s d b) ≡ bucket_size z
  len = length_merged z B.p_low (omega (arith, B.s_low)) plain s d j b hb

  bytes_plain : (i : ℕ) → get_or (merged z s d b) i 0 ≡ plain_at z plain b i
  bytes_plain i = merged-plain z B.p_low (omega (arith, B.s_low)) plain s d j b hb i

  -- the Write bucket leaves once the bytes are stored
  leaves : (f : Step) → Good z plain (f s d) d → (f s d).state.writes ≡ s.writes
      → ((i : Inside z plain (f s d).state (apply_all z d (f s d).stores)) → Stored z B.p_low plain (f s d).state (apply_all z d (f s d).stores) i b)
      → Good z plain ((f then move (drop_write b)) s d) d
  unfolding move
  leaves f g e st = then_good z plain f (move (drop_write b)) s d j.sizes_are g
      (nothing_good z plain (drop_write b (f s d).state) (apply_all z d (f s d).stores) _
      (write_dropped z B.p_low plain (f s d).state (apply_all z d (f s d).stores) g.1 b w (subst (λ (l : List Entry). Maps l b w) (sym e) m) (st g.1)))

  -- the logs are in the read bucket
  with_mark_lem : is_marked b s.writes ≡ true → Good z plain ((nothing then move (drop_write b)) s d) d
  unfolding nothing apply_all
  with_mark_lem q = let a = j.marks b q in leaves nothing (nothing_good z plain s d d j) refl (λ i. in_copy a.cache a.maps a.dirty a.content)

  with_copy : is_marked b s.writes ≡ false → s.next < 4294967296 → holds b s.reads ≡ true → Good z plain ((copy z dirty_kind b (merged z s d b) then move (drop_write b)) s d) d
  with_copy u room h =
      let f = copy-fresh z B plain b dirty_kind hb (inr refl) (merged z s d b) len (λ i q. bytes_plain i) s d j room (λ q. absurd (omega arith)) u in
      leaves (copy z dirty_kind b (merged z s d b))
      (copy_good z B plain b dirty_kind hb (inr refl) (merged z s d b) len (λ i q. bytes_plain i) s d j room (λ q. absurd (omega arith)) u (inl h)) f.writes_same
      (λ i. in_copy f.cache f.maps (f.dirty ∙ eq-eqb dirty_kind dirty_kind refl) f.content)

  with_disk : holds b s.reads ≡ false → Good z plain ((write_out z b (merged z s d b) then move (drop_write b)) s d) d
  unfolding write_out
  with_disk n =
      let a : Allowed z B plain s.gc (gc_below z plain s d j) b hb (merged z s d b) len d = plain_bytes (λ i q. bytes_plain i) in
      leaves (write_out z b (merged z s d b))
      (units_cuts z B plain s d j b hb (merged z s d b) len a, units_inside z B plain s d j b hb (merged z s d b) len a) refl
      (λ i. on_disk n (λ k. ap (λ (l : List ℕ). get_or l k 0) (units_are z B plain s d j b hb (merged z s d b) len a).disk_is ∙ bytes_plain k))

  pub evict_good : s.next < 4294967296 → Good z plain (evict z b s d) d
  unfolding evict
  evict_good room = go (true_or_false (is_marked b s.writes)) (true_or_false (holds b s.reads))
    where
      go : (is_marked b s.writes ≡ true) ⊎ (is_marked b s.writes ≡ false) → (holds b s.reads ≡ true) ⊎ (holds b s.reads ≡ false) → Good z plain (evict z b s d) d
      go (inl u) h = rw u (with_mark_lem u)
      go (inr u) (inl h) = rw (u, h) (with_copy u room h)
      go (inr u) (inr n) = rw (u, n) (with_disk n)

  pub evicted : s.next < 4294967296 → Evicted b s (evict z b s d).state
  unfolding evict ◌then◌ move nothing write_out drop_write moved
  evicted room = go (true_or_false (is_marked b s.writes)) (true_or_false (holds b s.reads))
    where
      go : (is_marked b s.writes ≡ true) ⊎ (is_marked b s.writes ≡ false) → (holds b s.reads ≡ true) ⊎ (holds b s.reads ≡ false) → Evicted b s (evict z b s d).state
      go (inl u) h = rw u (record { writes_are = refl; next_near = omega arith })
      go (inr u) (inl h) =
          let f = copy-fresh z B plain b dirty_kind hb (inr refl) (merged z s d b) len (λ i q. bytes_plain i) s d j room (λ q. absurd (omega arith)) u in
          rw (u, h) (record { writes_are = ap (without b) f.writes_same; next_near = omega (arith, f.next_is) })
      go (inr u) (inr n) = rw (u, n) (record { writes_are = refl; next_near = omega arith })

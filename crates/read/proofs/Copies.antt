-- A read's copy can be made, and where its bytes are.
use Prim.Native.Nat.{ℕ, ◌≤◌, ◌<◌}
use mathlib.Core.Path.{◌≡◌, refl, sym, ap, ◌∙◌}
use mathlib.Core.Bool.{true, false}
use mathlib.Core.Logic.{◌⊎◌, inl, inr}
use mathlib.Core.List.{List}
use native.Mathlib.Omega.{arith}
use Rattle.model.specs.declared.Sizes.{Sizes}
use Rattle.model.specs.Sizes.{Device}
use Rattle.model.specs.Spare.{read_kind, dirty_kind}
use Rattle.model.specs.State.{State, holds, caches_of}
use Rattle.model.specs.Image.{body_fits}
use Rattle.model.specs.Steps.{Step, ◌then◌, move, nothing, merged, copy}
use Rattle.model.specs.Operations.{drop_oldest, set_mark, make_place, read_copy}
use Rattle.std.specs.Prelude.{if◌then◌else◌}
use Rattle.lists.proofs.Tests.{true_or_false}
use Rattle.model.proofs.Frames.{Lengths}
use Rattle.image.specs.Chip.{spare_only}
use Rattle.queue.proofs.Without.{without-length}
use Rattle.geometry.specs.Geometry.{Lent}
use Rattle.meter.specs.Run.{Run, run_all}
use Rattle.steps.specs.Turns.{Progress, after}
use Rattle.steps.proofs.Turns.{after_then, then_steady}
use Rattle.copying.specs.Fresh.{Copies, Single}
use Rattle.copying.proofs.Copied.{copy_steady}
use Rattle.gather.specs.Sources.{Sources}
use Rattle.gather.proofs.Gathered.{sources_of}
use Rattle.oldest.specs.Drops.{Drops}
use Rattle.oldest.proofs.Dropped.{drops_ready, dropped}
use Rattle.read.specs.Reads.{Reads}
use Rattle.read.proofs.Stays.{Stays, place_stays}

pub sources : {s : State} {b off n : ℕ} {flash spare disk : List ℕ} → Reads s b off n spare → Lent s.sizes flash spare disk → Sources s b flash spare disk
sources r l = sources_of r.drops.orderly r.body_formed r.back l

-- t is s with a place for a copy of b
pub record Placed (s t : State) (b : ℕ) : Type 0 where
  pub copies : Copies t b
  pub sizes : t.sizes ≡ s.sizes

module _ (s : State) (o : Drops s) (low : s.next ≤ 4294967294) (b : ℕ) where
  -- over the old read bucket
  hit_placed : holds b s.reads ≡ true → Placed s s b
  unfolding caches_of
  hit_placed h = record {
    copies = record {
      ready = drops_ready o;
      place = omega (arith, rw h at (without-length b s.reads), o.orderly.bounded.reads);
      epoch = omega arith;
    };
    sizes = refl;
  }

  -- once the read queue has a place
  miss_placed : (d : Device) → Placed s (drop_oldest s.sizes s d).state b
  miss_placed d =
      let t = (drop_oldest s.sizes s d).state in
      let left = dropped s o d in
      record {
        copies = record {
          ready = left.ready;
          place = omega (arith, without-length b t.reads, left.fewer, o.orderly.limits.r_high);
          epoch = omega (arith, left.next);
        };
        sizes = left.sizes;
      }

  placed : (d : Device) → Placed s (make_place s.sizes b s d).state b
  unfolding make_place nothing
  placed d = go (true_or_false (holds b s.reads))
    where
      go : (holds b s.reads ≡ true) ⊎ (holds b s.reads ≡ false) → Placed s (make_place s.sizes b s d).state b
      go (inl h) = rw h (hit_placed h)
      go (inr h) = rw h (miss_placed d)

  -- p is where the step before the copy led to
  module _ (r : Run) {p : Progress} (e : p ≡ after s.sizes (make_place s.sizes b) s r) where
    pub left_placed : Placed s p.state b
    unfolding after
    left_placed = rw (ap (λ (q : Progress). q.state) e) (placed r.device)

    module _ (single : Single s) (lens : Lengths s.sizes r.device) where
      left_stays : Stays s p.state b r.device p.run.device
      unfolding after
      left_stays = rw e (place_stays s o single b r lens)

      pub left_single : Single p.state
      left_single = left_stays.single

      pub left_sources : body_fits s.sizes (spare_only r.device.spare) ≡ true → b < s.sizes.b → Lent s.sizes p.run.device.flash p.run.device.spare p.run.device.disk
          → Sources p.state b p.run.device.flash p.run.device.spare p.run.device.disk
      left_sources formed back lent =
          sources_of left_placed.copies.ready.orderly (rw (left_placed.sizes, left_stays.spare) formed) (rw left_placed.sizes back) (rw left_placed.sizes lent)

      pub left_bytes : merged p.state.sizes p.state p.run.device b ≡ merged s.sizes s r.device b
      left_bytes = ap (λ (y : Sizes). merged y p.state p.run.device b) left_placed.sizes ∙ left_stays.bytes

    pub copied : (k : ℕ) (bytes : List ℕ) → k ≡ (if holds b s.writes then dirty_kind else read_kind)
        → {q : Progress} → q ≡ after p.state.sizes (copy p.state.sizes k b bytes) p.state p.run
        → record { run = q.run; state = set_mark b q.state } ≡ after s.sizes (read_copy s.sizes b bytes) s r
    unfolding read_copy after move nothing run_all
    copied k bytes kind h =
        let z = s.sizes in
        let marks : Step = move (set_mark b) in
        ap (λ (x : Progress). record { run = x.run; state = set_mark b x.state }) (h ∙ ap (λ (y : Sizes). after y (copy y k b bytes) p.state p.run) left_placed.sizes)
        ∙ (sym (after_then z (copy z k b bytes) marks (λ t d e. refl) p.state p.run left_placed.sizes)
        ∙ (ap (λ (x : Progress). after z (copy z k b bytes then marks) x.state x.run) e
        ∙ (sym (after_then z (make_place z b) (copy z k b bytes then marks) (then_steady (copy z k b bytes) marks (copy_steady z k b bytes) (λ t d e. refl)) s r refl) ∙ rw kind)))

-- What a call may rely on once it is not turned down.
use Prim.Native.Nat.{ℕ, ◌≤◌}
use mathlib.Core.Path.{◌≡◌, ◌∙◌}
use mathlib.Core.Bool.{true}
use mathlib.Core.List.{List, [], ◌∷◌, ◌++◌, append-nil}
use lib.Dec.{leb}
use borrow.Author.Tests.{leb-true}
use Rattle.model.specs.declared.Sizes.{Sizes}
use Rattle.model.specs.Sizes.{Device, limits}
use Rattle.model.specs.Image.{body_fits}
use Rattle.model.specs.Ledger.{well_formed, recoverable}
use Rattle.model.specs.State.{State, state_fits}
use Rattle.model.specs.Operations.{last_epoch}
use Rattle.model.specs.Tests.{Test, first_failed}
use Rattle.model.specs.Calls.{lent_tests, running_tests, place_tests}
use Rattle.model.proofs.Calling.{Range, first_passed, place_passed}
use Rattle.model.proofs.Limits.{Limits}
use Rattle.geometry.specs.Geometry.{Lent}
use Rattle.model.proofs.Limits.{limits_of}
use Rattle.geometry.proofs.Passed.{lengths_hold, lent_passed}
use Rattle.image.specs.Chip.{Chip, spare_only}
use Rattle.ledger.proofs.Pages.{formed_body}
use Rattle.rules.proofs.SameSpare.{same-body-fits}
use Rattle.state.proofs.Queued.{Queued, queues_hold, bounded}
use Rattle.state.proofs.Below.{queues_below}
use Rattle.steps.specs.Ready.{Orderly}
use Rattle.checks.proofs.Failed.{none_fails}
use Rattle.checks.proofs.Rest.{running-numbered}

-- numbers 1 and 2 are passed
pub chip_opens : (z : Sizes) (d : Device) → first_failed (lent_tests z d) ≡ 0 → Chip z d.spare
chip_opens z d h = let p = lent_passed z d h in record { limits = p.0; spare_length = p.1.spare_length }

-- numbers 1 and 2 are passed, and the buckets outside the ledger are made by the page rules
pub record Image (z : Sizes) (d : Device) : Type 0 where
  pub limits : Limits z
  pub lent : Lent z d.flash d.spare d.disk
  pub formed : body_fits z d ≡ true

pub image_opens : (z : Sizes) (d : Device) → first_failed (lent_tests z d ++ ((4, body_fits z d) ∷ [])) ≡ 0 → Image z d
unfolding lent_tests
image_opens z d h =
    let one = first_passed 0 _ _ h in
    let two = first_passed 1 _ _ one.1 in
    let four = first_passed 3 _ _ two.1 in
    record { limits = limits_of z one.0; lent = lengths_hold z d two.0; formed = four.0 }

-- numbers 1, 2 and 4 of recover are passed
pub record Found (z : Sizes) (d : Device) : Type 0 where
  pub limits : Limits z
  pub lent : Lent z d.flash d.spare d.disk
  pub found : recoverable z d ≡ true

pub found_opens : (z : Sizes) (d : Device) → first_failed (lent_tests z d ++ ((4, recoverable z d) ∷ [])) ≡ 0 → Found z d
unfolding lent_tests
found_opens z d h =
    let one = first_passed 0 _ _ h in
    let two = first_passed 1 _ _ one.1 in
    let four = first_passed 3 _ _ two.1 in
    record { limits = limits_of z one.0; lent = lengths_hold z d two.0; found = four.0 }

-- numbers 1 to 5 are passed
pub record Open (s : State) (d : Device) : Type 0 where
  pub image : Image s.sizes d
  pub formed : well_formed s.sizes d ≡ true
  pub running : s.running ≡ true
  pub limited : limits s.sizes ≡ true
  pub fits : state_fits s d ≡ true

module _ (s : State) (d : Device) where
  passed_opens : first_failed (running_tests s d) ≡ 0 → Open s d
  unfolding running_tests lent_tests
  passed_opens h =
      let one = first_passed 0 _ _ h in
      let two = first_passed 1 _ _ one.1 in
      let three = first_passed 2 _ _ two.1 in
      let four = first_passed 3 _ _ three.1 in
      let five = first_passed 4 _ _ four.1 in
      record {
        image = record { limits = limits_of s.sizes one.0; lent = lengths_hold s.sizes d two.0; formed = formed_body s.sizes d four.0 };
        formed = four.0;
        running = three.0;
        limited = one.0;
        fits = five.0;
      }

  -- of the state that the struct's places hold, which then is the one shown
  module _ {w : State} (same : s ≡ w) where
    pub running_opens : first_failed (running_tests s d) ≡ 0 → Open w d
    running_opens h = rw (← same) (passed_opens h)

    -- numbers 1 to 7
    pub read_opens : (b off n : ℕ) → first_failed (running_tests s d ++ place_tests s.sizes b off n) ≡ 0 → Open w d × Range w.sizes b off n
    read_opens b off n h =
        let place = place_tests s.sizes b off n in
        let both = none_fails (running_tests s d) place (running-numbered s d) h in
        rw (← same) (passed_opens both.0, (place_passed s.sizes b off n [] (rw (append-nil place) both.1)).0)

    -- numbers 1 to 8
    pub write_opens : (b off n : ℕ) → first_failed (running_tests s d ++ (place_tests s.sizes b off n ++ ((8, leb s.next last_epoch) ∷ []))) ≡ 0
        → Open w d × Range w.sizes b off n × (w.next ≤ last_epoch)
    write_opens b off n h =
        let epochs : List Test = (8, leb s.next last_epoch) ∷ [] in
        let both = none_fails (running_tests s d) (place_tests s.sizes b off n ++ epochs) (running-numbered s d) h in
        let place = place_passed s.sizes b off n epochs both.1 in
        rw (← same) (passed_opens both.0, place.0, leb-true s.next last_epoch (first_passed 7 _ _ place.1).0)

-- ---- what the state's queues then are

module _ {s : State} {d : Device} (o : Open s d) where
  pub open_queued : Queued s
  open_queued = queues_hold s d o.fits

  pub open_orderly : Orderly s
  open_orderly =
      let below = queues_below s open_queued.below in
      record {
        limits = o.image.limits;
        bounded = bounded s d o.fits o.limited;
        reads = below.reads;
        writes = below.writes;
        gc = below.gc;
        free = below.free;
      }

  pub open_formed : body_fits s.sizes (spare_only d.spare) ≡ true
  open_formed = same-body-fits s.sizes d ∙ o.image.formed

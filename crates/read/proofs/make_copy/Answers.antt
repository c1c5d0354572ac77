use mathlib.Core.Path.{◌≡◌, ap, ◌∙◌}
use mathlib.Core.List.{List}
use Prim.Native.Nat.{ℕ}
use Rattle.model.specs.State.{State, moved, cache_of}
use Rattle.model.specs.Operations.{set_mark, read_copy}
use Rattle.geometry.proofs.Passed.{lengths_of}
use Rattle.meter.specs.Lent.{run_of}
use Rattle.meter.proofs.Stays.{stays_on}
use Rattle.state.specs.View.{places_of}
use Rattle.steps.specs.Turns.{after}
use Rattle.read.proofs.Copies.{left_placed, left_single, left_sources, left_bytes, copied}
use Rattle.read.proofs.make_copy.Goals as goal

pub make_place-placed-requires : goal.make_place-placed-requires
make_place-placed-requires c = record { lent = c.requires.sources.lent; drops = c.requires.drops.0 }

pub copy-made-requires : goal.copy-made-requires
copy-made-requires c = let start = c in
    let a = start.args in
    let sources = start.requires.sources in
    let asked = start.requires.drops in
    let v = places_of a.s in
    let r = run_of a.run.now in
    let place = c.make_place-placed.ensures in
    let lens = lengths_of sources.lent in
    let left = left_placed v asked.0 asked.2 a.b r place.after in record { lent = rw left.sizes place.stays.lent; copies = (left.copies, left_single v asked.0 asked.2 a.b r place.after asked.1 lens); sources = left_sources v asked.0 asked.2 a.b r place.after asked.1 lens sources.body_formed sources.back place.stays.lent }

pub returns : goal.returns
unfolding set_mark moved
returns c = let start = c in
    let a = start.args in
    let asked = start.requires.drops in
    let v = places_of a.s in
    let r = run_of a.run.now in
    let place = c.make_place-placed.ensures in
    let left = left_placed v asked.0 asked.2 a.b r place.after in
    let bytes = left_bytes v asked.0 asked.2 a.b r place.after asked.1 (lengths_of start.requires.sources.lent) in
    let made = c.copy-made.ensures in
    let marked : cache_of a.b (places_of c.set_mark.result).reads ≡ cache_of a.b (places_of c.copy-made.result).reads = ap (λ (t : State). cache_of a.b t.reads) c.set_mark.ensures in record {
      after = rw c.set_mark.ensures
          (copied v asked.0 asked.2 a.b r place.after c.copy_kind-kind.result _ c.copy_kind-kind.ensures made.after
          ∙ ap (λ (l : List ℕ). after a.s.sizes (read_copy a.s.sizes a.b l) v r) bytes);
      stays = stays_on _ _ _ _ place.stays (rw left.sizes at made.stays);
      state_after = λ uncut. rw marked (rw left.sizes at (made.state_after uncut ∙ bytes));
    }

use mathlib.Core.Path.{◌≡◌, refl, ap, ◌∙◌}
use Rattle.model.specs.State.{State, cache_of}
use Rattle.model.specs.Steps.{take_copy}
use Rattle.meter.specs.Lent.{run_of}
use Rattle.meter.proofs.Stays.{stays_on}
use Rattle.state.specs.View.{places_of}
use Rattle.steps.proofs.Kept.{roomed}
use Rattle.gather.proofs.Gathered.{listed}
use Rattle.copying.specs.Fresh.{room_of}
use Rattle.copying.proofs.Copied.{room_inside, copied_cache, copied_by, copied_left}
use Rattle.copying.proofs.Sourced.{laid_in, copy_bytes, copy_run}
use Rattle.copying.proofs.copy.Goals as goal

pub take_copy-state-requires : goal.take_copy-state-requires
take_copy-state-requires c =
    let copies = c.requires.copies.0 in
    let v = places_of c.args.s in
    let d = (run_of c.args.run.now).device in
    rw (c.roomed-roomed.ensures d) (copied_left copies (roomed v copies.ready v.sizes d)).bounded

pub erase_room-requires : goal.erase_room-requires
erase_room-requires c =
    let v = places_of c.args.s in
    record {
      lent = c.requires.lent;
      limits = (c.requires.sources.limits, rw c.room_of-room.ensures (room_inside v.sizes v (run_of c.args.run.now).device c.requires.copies.0.ready));
    }

pub fill_room-run-requires : goal.fill_room-run-requires
fill_room-run-requires c =
    let copies = c.requires.copies in
    let erased = c.erase_room.ensures in
    let room = c.room_of-room.ensures in
    let logs = listed _ c.logs_of-logs.ensures c.as_slice.ensures in
    record {
      laid = rw (c.log_in-target.ensures, logs, c.find-base.ensures, room)
          (laid_in c.requires.sources copies.0.ready copies.1 c.args.run.now.meter (rw room at erased.after) erased.stays.lent);
      first_value = rw c.log_in-target.ensures;
    }

pub returns : goal.returns
returns c =
    let a = c.args in
    let copies = c.requires.copies in
    let sources = c.requires.sources in
    let v = places_of a.s in
    let before = run_of a.run.now in
    let erased = c.erase_room.ensures in
    let room = c.room_of-room.ensures in
    let ran = rw room at erased.after in
    let logs = listed _ c.logs_of-logs.ensures c.as_slice.ensures in
    let cache : cache_of a.b (places_of c.take_copy-state.result).reads ≡ (room_of v).bucket =
    ap (λ (t : State). cache_of a.b t.reads) (c.take_copy-state.ensures ∙ ap (take_copy a.b) (c.roomed-roomed.ensures before.device)) ∙ copied_cache v.sizes v before.device a.b in
    let filled = rw (c.log_in-target.ensures, logs, c.find-base.ensures, room) at c.fill_room-run.ensures in record {
      after = rw c.take_copy-state.ensures
          (copied_by v.sizes v before copies.0.ready a.kind a.b _ (copy_run sources copies.0.ready copies.1 before.meter ran a.kind filled.after) (c.roomed-roomed.ensures before.device));
      stays = stays_on _ _ _ _ erased.stays (record { lent = filled.lent_after; flash = refl; spare = refl; disk = refl });
      state_after = λ uncut. rw cache (filled.bucket_after uncut ∙ copy_bytes sources copies.0.ready copies.1 before.meter ran);
    }

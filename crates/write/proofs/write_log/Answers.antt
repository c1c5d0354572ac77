use Rattle.write.proofs.Yielded.{fit_held, fit_pages, way_left, written_by, write_starts}
use Rattle.arrival.proofs.Arrived.{kept_fits_lem}
use Rattle.steps.proofs.Kept.{body-some}
use Rattle.steps.proofs.Inside.{cache_inside}
use Rattle.state.specs.View.{places_of}
use Rattle.queue.specs.View.{entries_of}
use Rattle.geometry.proofs.Passed.{products}
use Rattle.model.specs.Operations.{fits, write}
use Rattle.model.specs.Sizes.{bucket_size, pages_for, body}
use Rattle.model.proofs.Limits.{on_chip}
use Rattle.steps.specs.Turns.{after}
use Rattle.meter.specs.Lent.{run_of}
use Rattle.meter.proofs.Stays.{stays_on}
use lib.ListN.{length}
use native.Mathlib.Omega.{arith}
use mathlib.Core.Bool.{true, false}
use mathlib.Core.Path.{◌≡◌}
use Rattle.write.proofs.write_log.Goals as goal

pub fits-requires : goal.fits-requires
unfolding bucket_size
fits-requires c = let start = c in
    let limits = start.requires.writes.yields.ready.orderly.limits in
    record { limits = limits; n_bound = omega (arith, start.requires.writes.room, products limits) }

pub append_log-requires : goal.append_log-requires
append_log-requires c = let start = c in
    let a = start.args in
    let writes = start.requires.writes in
    let orderly = writes.yields.ready.orderly in
    let pages = pages_for a.s.sizes (length a.bytes.now) in
    let fits = rw c.fits.ensures at c.if-fits.true in
    let held = fit_held a.b pages (places_of a.s) fits in record {
      lent = start.requires.lent;
      appends = record {
        limits = orderly.limits;
        bucket = on_chip a.s.sizes _ (cache_inside (body a.s.sizes) a.b (entries_of a.s.writes) orderly.writes (body-some orderly));
        programmed = writes.programmed a.b held;
        count = writes.counts a.b held;
        some = writes.some;
        room = writes.room;
        pages = fit_pages a.b pages (places_of a.s) fits;
      };
    }

pub returns-then-fits : goal.returns-then-fits
unfolding write after
returns-then-fits c = let fitted = c.fits in
    let if1 = c.if-fits in
    let start = c in
    let a = start.args in
    let z = a.s.sizes in
    let d = (run_of a.run.now).device in
    let pages = pages_for z (length a.bytes.now) in
    let fitting : fits z d a.b pages (places_of a.s) ≡ true = rw (fitted.ensures, kept_fits_lem z d a.b pages (places_of a.s) (start.requires.writes.counts a.b)) at if1.true in
    record { after = rw fitting c.append_log.ensures.after; stays = c.append_log.ensures.stays }

pub make_way-way-requires : goal.make_way-way-requires
make_way-way-requires c = let start = c in
    record { lent = start.requires.lent; yields = start.requires.writes.yields }

pub start_log-requires : goal.start_log-requires
start_log-requires c = let way_made = c.make_way-way in
    let start = c in
    let a = start.args in
    let made = way_made.ensures in
    let way = way_left (places_of a.s) a.run.now.spare.now start.requires.writes.yields a.b (run_of a.run.now) made.after in
    record { lent = rw way.sizes made.stays.lent; starts = write_starts start.requires.writes way }

pub returns : goal.returns
returns c = let fitted = c.fits in
    let if1 = c.if-fits in
    let way_made = c.make_way-way in
    let start = c in
    let a = start.args in
    let z = a.s.sizes in
    let d = (run_of a.run.now).device in
    let pages = pages_for z (length a.bytes.now) in
    let full : fits z d a.b pages (places_of a.s) ≡ false = rw (fitted.ensures, kept_fits_lem z d a.b pages (places_of a.s) (start.requires.writes.counts a.b)) at if1.false in
    let r = run_of a.run.now in
    let made = way_made.ensures in
    let started = c.start_log.ensures in record { after = written_by (places_of a.s) a.run.now.spare.now start.requires.writes.yields a.b r made.after a.offset a.bytes.now full started.after; stays = stays_on _ _ _ _ made.stays (rw (way_left (places_of a.s) a.run.now.spare.now start.requires.writes.yields a.b r made.after).sizes at started.stays) }

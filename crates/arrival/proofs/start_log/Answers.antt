use native.Mathlib.Omega.{arith}
use lib.ListN.{length}
use Rattle.model.specs.Sizes.{bucket_size}
use Rattle.model.proofs.Limits.{pages_fit}
use Rattle.meter.specs.Lent.{run_of}
use Rattle.geometry.proofs.Passed.{products}
use Rattle.state.specs.View.{places_of}
use Rattle.steps.proofs.Kept.{roomed}
use Rattle.copying.proofs.Copied.{takes}
use Rattle.arrival.proofs.Arrived.{started_by, arrival_bounded}
use Rattle.arrival.proofs.start_log.Goals as goal

pub pages_for-pages-requires : goal.pages_for-pages-requires
unfolding bucket_size
pages_for-pages-requires c = let fresh = c.requires.starts.fresh in
    let limits = fresh.ready.orderly.limits in
    (limits, omega (arith, fresh.room, products limits))

pub overflow_sub-rest : goal.overflow_sub-rest
overflow_sub-rest c = let start = c in
    let fresh = start.requires.starts.fresh in
    omega (arith, c.pages_for-pages.ensures, pages_fit start.args.s.sizes (length start.args.bytes.now) (omega (arith, fresh.ready.orderly.limits.s_low)) fresh.room)

pub overflow_cast-rest : goal.overflow_cast-rest
overflow_cast-rest c = omega (arith, c.requires.starts.fresh.ready.orderly.limits.p_high)

pub fresh_log-requires : goal.fresh_log-requires
fresh_log-requires c = let start = c in
    let a = start.args in
    record { lent = start.requires.lent; takes = rw c.room_of-room.ensures (takes a.s.sizes (places_of a.s) (run_of a.run.now).device start.requires.starts.fresh) }

pub roomed-roomed-requires : goal.roomed-roomed-requires
roomed-roomed-requires c = let start = c in
    start.requires.starts.fresh.ready.orderly.bounded

pub take_write-arrived-requires : goal.take_write-arrived-requires
take_write-arrived-requires c = let start = c in
    let a = start.args in
    let d = (run_of a.run.now).device in
    rw (c.roomed-roomed.ensures d) (arrival_bounded a.b start.requires.starts (roomed (places_of a.s) start.requires.starts.fresh.ready a.s.sizes d))

pub returns : goal.returns
returns c = let fresh-log = c.fresh_log in
    let room_of = c.room_of-room in
    let start = c in
    let a = start.args in
    let r = run_of a.run.now in
    let logged = fresh-log.ensures in
    let pages = c.pages_for-pages in record {
      after = rw (c.accept.ensures, c.take_write-arrived.ensures)
          (started_by a.s.sizes (places_of a.s) r start.requires.starts.fresh.ready a.b a.offset a.bytes.now pages.result (rw room_of.ensures at logged.after) (c.roomed-roomed.ensures r.device) pages.ensures);
      stays = logged.stays;
    }

use Rattle.arrival.proofs.Arrived.{appended_by}
use Rattle.state.specs.View.{places_of}
use Rattle.image.specs.Chip.{spare_only}
use Rattle.meter.specs.Lent.{run_of}
use Rattle.geometry.proofs.Passed.{products}
use Rattle.model.specs.Sizes.{bucket_size}
use Rattle.model.specs.State.{cache_of}
use Rattle.model.proofs.Buckets.{blanks_most}
use Rattle.model.proofs.Limits.{pages-some}
use Rattle.queue.proofs.Found.{found_some, blank-held}
use Rattle.queue.specs.View.{entries_of}
use mathlib.Core.Path.{sym, ◌∙◌}
use native.Mathlib.Omega.{arith}
use lib.ListN.{length}
use Rattle.arrival.proofs.append_log.Goals as goal

pub unwrap-own-requires : goal.unwrap-own-requires
unwrap-own-requires c =
    let a = c.args in
    let appends = c.requires.appends in
    let some = pages-some a.s.sizes (length a.bytes.now) (omega (arith, appends.limits.s_low)) appends.some in
    rw c.find.ensures (blank-held a.b (entries_of a.s.writes) (omega (arith, some, appends.pages)))

pub used_epoch-epoch-requires : goal.used_epoch-epoch-requires
used_epoch-epoch-requires c =
    let own = found_some c.args.b (entries_of c.args.s.writes) c.unwrap-own.result (sym c.find.ensures ∙ c.unwrap-own.ensures) in
    let appends = c.requires.appends in
    record {
      chip = rw c.spare.ensures (record { limits = appends.limits; spare_length = c.requires.lent.spare_length });
      c_lt_c = rw (← own.cache) appends.bucket;
      c_value = rw (c.spare.ensures, ← own.cache) appends.programmed;
    }

pub pages_for-pages-requires : goal.pages_for-pages-requires
unfolding bucket_size
pages_for-pages-requires c =
    let appends = c.requires.appends in
    (appends.limits, omega (arith, appends.room, products appends.limits))

pub overflow_sub-first : goal.overflow_sub-first
overflow_sub-first c =
    let a = c.args in
    let own = found_some a.b (entries_of a.s.writes) c.unwrap-own.result (sym c.find.ensures ∙ c.unwrap-own.ensures) in
    omega (arith, own.blank, c.requires.appends.count, blanks_most a.s.sizes (spare_only a.run.now.spare.now) (cache_of a.b (entries_of a.s.writes)))

pub overflow_sub-rest : goal.overflow_sub-rest
overflow_sub-rest c =
    let own = found_some c.args.b (entries_of c.args.s.writes) c.unwrap-own.result (sym c.find.ensures ∙ c.unwrap-own.ensures) in
    omega (arith, c.pages_for-pages.ensures, own.blank, c.requires.appends.pages)

pub program_log-requires : goal.program_log-requires
program_log-requires c =
    let a = c.args in
    let appends = c.requires.appends in
    let own = found_some a.b (entries_of a.s.writes) c.unwrap-own.result (sym c.find.ensures ∙ c.unwrap-own.ensures) in
    record {
      lent = c.requires.lent;
      fits = record {
        limits = appends.limits;
        bucket = omega (arith, own.cache, appends.bucket);
        some = appends.some;
        room = omega (arith, own.blank, appends.count, appends.pages, blanks_most a.s.sizes (spare_only a.run.now.spare.now) (cache_of a.b (entries_of a.s.writes)));
      };
    }

pub returns : goal.returns
returns c =
    let a = c.args in
    let e = c.unwrap-own.result in
    let own = found_some a.b (entries_of a.s.writes) e (sym c.find.ensures ∙ c.unwrap-own.ensures) in
    let epoch = c.used_epoch-epoch in
    let pages = c.pages_for-pages in
    let written = c.program_log.ensures in
    record {
      after = rw (written.after, c.accept.ensures)
          (appended_by a.s.sizes a.b a.offset a.bytes.now (places_of a.s) (run_of a.run.now) c.requires.appends.count e.cache e.blank epoch.result pages.result (sym own.cache) (sym own.blank) (rw c.spare.ensures at epoch.ensures) pages.ensures);
      stays = written.stays;
    }

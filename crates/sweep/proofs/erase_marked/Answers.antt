use Rattle.std.proofs.Common.{refl, sym, ◌∙◌, arith}
use Rattle.lists.specs.Lists.{below, keep, row}
use Rattle.model.specs.Ledger.{named}
use Rattle.meter.specs.Run.{run_all}
use Rattle.meter.specs.Lent.{run_of}
use Rattle.meter.proofs.Stays.{stays_here, stays_on}
use Rattle.image.specs.Chip.{spare_only}
use Rattle.ledger.proofs.Names.{mark_at}
use Rattle.sweep.proofs.Erases.{erased_more, erased_same}
use Rattle.sweep.proofs.erase_marked.Goals as goal
use Rattle.sweep.proofs.erase_marked.Goals.{then-marks-bucket, else-marks-bucket}

pub loop-bucket-init : goal.loop-bucket-init
unfolding run_all keep below row
loop-bucket-init c = record { stays = stays_here _ _ c.requires.lent; erased = refl }

pub erase-requires-clause-lent : goal.erase-requires-clause-lent
erase-requires-clause-lent c = c.loop-bucket.invariant.stays.lent

pub loop-bucket-preserved : goal.loop-bucket-preserved
loop-bucket-preserved c =
    let loop = c.loop-bucket in
    let a = c.args in
    let t = named a.z (spare_only a.run.now.spare.now) in
    let marked = mark_at a.z (spare_only a.run.now.spare.now) a.marks.now c.requires.marks loop.bucket (omega (arith, c.loop-bucket-test.true, c.body-end.ensures)) in
    elim c.if-marks-bucket.branch [
      | then-marks-bucket w ↦ rw w.run-is (record {
        stays = stays_on _ _ _ _ loop.invariant.stays w.erase.ensures.stays;
        erased = rw (w.erase.ensures.after, loop.invariant.erased, erased_more a.z t loop.bucket (run_of a.run.now) (sym marked ∙ w.if-marks-bucket.true));
      })
      | else-marks-bucket w ↦ rw w.run-is (record {
        stays = loop.invariant.stays;
        erased = rw (loop.invariant.erased, erased_same a.z t loop.bucket (run_of a.run.now) (sym marked ∙ w.if-marks-bucket.false));
      })
    ]

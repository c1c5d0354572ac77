use Rattle.meter.specs.Lent.{run_of}
use Rattle.meter.proofs.Stays.{stays_on}
use Rattle.sweep.proofs.Erases.{sweep_run}
use Rattle.sweep.proofs.sweep.Goals as goal
use Rattle.std.proofs.Common.{sym}

pub returns : goal.returns
returns c =
    let before = run_of c.args.run.now in
    let marked = c.erase_marked.ensures in
    record {
      after = rw (c.erase-2.ensures.after, c.erase.ensures.after, marked.after, c.body-lower.ensures) (sym (sweep_run c.args.z before.device before));
      stays = stays_on _ _ _ _ marked.stays (stays_on _ _ _ _ c.erase.ensures.stays c.erase-2.ensures.stays);
    }

use Rattle.meter.specs.Lent.{run_of}
use Rattle.recover.proofs.Stages.{rebuilt_reached}
use Rattle.recover.proofs.rebuild_by.Goals as goal

pub returns-clause-after : goal.returns-clause-after
returns-clause-after c =
    rw (rw c.spare.ensures at c.recovered-new.ensures)
    (rebuilt_reached c.args.z c.args.next (run_of c.args.run.now) c.rescue.ensures.after)

use mathlib.Core.Path.{refl}
use Rattle.lists.specs.Lists.{below, row}
use Rattle.meter.specs.Run.{run_all}
use Rattle.meter.proofs.Stays.{stays_here, stays_on}
use Rattle.format.proofs.Erases.{erases_more}
use Rattle.format.proofs.erase_all.Goals as goal

pub loop-bucket-init : goal.loop-bucket-init
unfolding run_all below row
loop-bucket-init c = record { stays = stays_here _ _ c.requires; erased = refl }

pub erase-requires-clause-lent : goal.erase-requires-clause-lent
erase-requires-clause-lent c = c.loop-bucket.invariant.stays.lent

pub loop-bucket-preserved : goal.loop-bucket-preserved
loop-bucket-preserved c = record {
  stays = stays_on _ _ _ _ c.loop-bucket.invariant.stays c.erase.ensures.stays;
  erased = rw (c.erase.ensures.after, c.loop-bucket.invariant.erased, erases_more);
}

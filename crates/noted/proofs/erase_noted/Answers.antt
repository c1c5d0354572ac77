use Rattle.model.specs.Steps.{noted_erase}
use Rattle.meter.proofs.Runs.{run_append}
use Rattle.meter.proofs.Stays.{stays_on}
use Rattle.meter.specs.Run.{run_all}
use Rattle.noted.proofs.erase_noted.Goals as goal

pub returns : goal.returns
unfolding noted_erase run_all
returns c = record { after = rw (c.erase.ensures.after, c.note.ensures.after, run_append); stays = stays_on _ _ _ _ c.note.ensures.stays c.erase.ensures.stays }

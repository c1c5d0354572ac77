use Rattle.meter.specs.Run.{run_all}
use Rattle.meter.proofs.Stays.{stays_here}
use Rattle.copying.specs.Fresh.{erases}
use Rattle.copying.proofs.erase_room.Goals as goal

pub returns-then-room : goal.returns-then-room
unfolding erases run_all
returns-then-room c = record { after = rw c.if-room.true c.erase_noted.ensures.after; stays = c.erase_noted.ensures.stays }

pub returns-else-room : goal.returns-else-room
unfolding erases run_all
returns-else-room c = record { after = rw c.if-room.false; stays = stays_here _ _ c.requires.lent }

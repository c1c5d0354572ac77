use Rattle.noted.proofs.Entries.{in_use_inside}
use Rattle.noted.proofs.entry_room.Goals as goal

pub blanks-requires-clause-c_lt_c : goal.blanks-requires-clause-c_lt_c
blanks-requires-clause-c_lt_c c = rw c.in_use-used.ensures (in_use_inside _ c.requires.limits _).1

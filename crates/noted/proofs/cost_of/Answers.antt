use borrow.Author.Tests.{le-leb, lt-leb}
use native.Mathlib.Omega.{arith}
use Rattle.model.proofs.ProgramsLedger.{room_after}
use Rattle.noted.proofs.Counted.{counted}
use Rattle.noted.proofs.cost_of.Goals as goal

pub returns-then-room-eq0 : goal.returns-then-room-eq0
unfolding room_after
returns-then-room-eq0 c =
    let none = lt-leb 1 c.args.room (omega arith) in
    counted c.args.z c.args.room c.requires _ (rw none) (rw none)

pub returns-else-room-eq0 : goal.returns-else-room-eq0
unfolding room_after
returns-else-room-eq0 c =
    let some = le-leb 1 c.args.room (omega arith) in
    counted c.args.z c.args.room c.requires _ (rw some) (rw some)

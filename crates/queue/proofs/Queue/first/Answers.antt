use mathlib.Core.Path.{sym}
use native.Mathlib.Omega.{arith}
use lib.Seq.{get_or-take}
use Rattle.model.specs.State.{entry}
use Rattle.queue.specs.View.{no_entry}
use Rattle.queue.proofs.Queue.first.Goals as goal

pub returns-then-self-eq0 : goal.returns-then-self-eq0
unfolding entry
returns-then-self-eq0 c = rw (c.if-self-eq0.true, c.entry.ensures)

pub returns-else-self-eq0 : goal.returns-else-self-eq0
returns-else-self-eq0 c =
    let q = c.args.self in
    sym (get_or-take q.len q.items 0 no_entry (omega arith))

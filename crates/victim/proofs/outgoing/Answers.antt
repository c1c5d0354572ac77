use Rattle.queue.specs.View.{entries_of}
use Rattle.model.specs.Operations.{outgoing}
use native.Mathlib.Omega.{arith}
use borrow.Author.Tests.{le-leb, lt-leb}
use lib.ListN.{length}
use mathlib.Core.Path.{sym, ◌∙◌}
use Prim.Native.Nat.{◌≤◌, ◌<◌}
use Rattle.victim.proofs.outgoing.Goals as goal

pub returns-then-holds : goal.returns-then-holds
unfolding outgoing
returns-then-holds c = rw (sym c.holds.ensures ∙ c.if-holds.true)

pub returns-then-s-n : goal.returns-then-s-n
unfolding outgoing
returns-then-s-n c = let a = c.args in
    let full : a.s.sizes.w ≤ length (entries_of a.s.writes) = omega (arith, c.if-s-n.true, c.used-n.ensures.0) in
    rw (sym c.holds.ensures ∙ c.if-holds.false, le-leb a.s.sizes.w (length (entries_of a.s.writes)) full, c.victim_of-back.ensures)

pub returns : goal.returns
unfolding outgoing
returns c = let a = c.args in
    let room : length (entries_of a.s.writes) < a.s.sizes.w = omega (arith, c.if-s-n.false, c.used-n.ensures.0) in
    rw (sym c.holds.ensures ∙ c.if-holds.false, lt-leb a.s.sizes.w (length (entries_of a.s.writes)) room)

use lib.ListN.{length}
use borrow.Author.Tests.{eq-eqb, ne_eqb}
use Prim.Native.Nat.{◌-◌}
use Rattle.overlay.proofs.pages_at.Goals as goal

pub returns-then-j-list : goal.returns-then-j-list
returns-then-j-list c = let a = c.args in rw (eq-eqb a.j (length a.list.now - 1) c.if-j-list.true)

pub returns : goal.returns
returns c = let a = c.args in rw (ne_eqb a.j (length a.list.now - 1) c.if-j-list.false) c.pages_used_at.ensures

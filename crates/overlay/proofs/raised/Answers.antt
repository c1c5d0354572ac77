use borrow.Author.Tests.{lt-ltb, le-ltb}
use native.Mathlib.Omega.{arith}
use Rattle.overlay.proofs.raised.Goals as goal

pub returns-then-log-x : goal.returns-then-log-x
returns-then-log-x c = let a = c.args in rw (lt-ltb a.log.high a.x c.if-log-x.true) c.max.ensures

pub returns : goal.returns
returns c = let a = c.args in rw (le-ltb a.log.high a.x (omega (arith, c.if-log-x.false)))

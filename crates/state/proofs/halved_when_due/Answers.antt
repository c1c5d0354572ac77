use borrow.Author.Tests.{le-leb, lt-leb}
use Rattle.state.proofs.halved_when_due.Goals as goal

pub returns-then-accepted-ge-LAST_COUNT : goal.returns-then-accepted-ge-LAST_COUNT
returns-then-accepted-ge-LAST_COUNT c = rw (le-leb _ _ c.if-accepted-ge-LAST_COUNT.true) c.halve.ensures

pub returns : goal.returns
returns c = rw (lt-leb _ _ c.if-accepted-ge-LAST_COUNT.false)

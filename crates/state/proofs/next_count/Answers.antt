use borrow.Author.Tests.{le-leb, lt-leb}
use Rattle.state.proofs.next_count.Goals as goal

pub returns-then-accepted-ge-LAST_COUNT : goal.returns-then-accepted-ge-LAST_COUNT
returns-then-accepted-ge-LAST_COUNT c = rw (le-leb _ _ c.if-accepted-ge-LAST_COUNT.true)

pub returns-else-accepted-ge-LAST_COUNT : goal.returns-else-accepted-ge-LAST_COUNT
returns-else-accepted-ge-LAST_COUNT c = rw (lt-leb _ _ c.if-accepted-ge-LAST_COUNT.false)

use Rattle.read.proofs.copy_kind.Goals as goal

pub returns-then-holds : goal.returns-then-holds
returns-then-holds c = rw (← c.holds.ensures, c.if-holds.true)

pub returns-else-holds : goal.returns-else-holds
returns-else-holds c = rw (← c.holds.ensures, c.if-holds.false)

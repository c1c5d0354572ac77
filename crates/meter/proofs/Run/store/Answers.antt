use Rattle.meter.specs.Run.{step}
use borrow.Author.Tests.{eq-eqb, ne_eqb}
use Rattle.meter.proofs.Run.store.Goals as goal

pub returns-then-self-eq0-clause-after : goal.returns-then-self-eq0-clause-after
unfolding step
returns-then-self-eq0-clause-after c = rw (eq-eqb _ _ c.if-self-eq0.true, c.if-self-eq0.true)

pub returns-clause-after : goal.returns-clause-after
unfolding step
returns-clause-after c = rw (c.carry_out.ensures.disk_after, ne_eqb _ _ c.if-self-eq0.false)

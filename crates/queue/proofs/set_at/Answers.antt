use borrow.Author.Tests.{eq-eqb, ne_eqb}
use Rattle.model.specs.State.{is_of, entry}
use Rattle.model.specs.Operations.{prioritised}
use Rattle.queue.proofs.set_at.Goals as goal

pub returns-then-e-b : goal.returns-then-e-b
unfolding prioritised is_of entry
returns-then-e-b c = rw (eq-eqb _ _ c.if-e-b.true, c.if-e-b.true)

pub returns-else-e-b : goal.returns-else-e-b
unfolding prioritised is_of entry
returns-else-e-b c = rw (ne_eqb _ _ c.if-e-b.false)

use borrow.Author.Tests.{eq-eqb, ne_eqb}
use Rattle.model.specs.State.{with_mark, is_of, remarked}
use Rattle.queue.proofs.mark_at.Goals as goal

pub returns-then-e-b : goal.returns-then-e-b
unfolding remarked with_mark is_of
returns-then-e-b c = rw (eq-eqb _ _ c.if-e-b.true)

pub returns-else-e-b : goal.returns-else-e-b
unfolding remarked with_mark is_of
returns-else-e-b c = rw (ne_eqb _ _ c.if-e-b.false)

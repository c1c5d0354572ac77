-- `line::field_at` meets its contract.
use mathlib.Core.Path.{◌∙◌}
use borrow.Author.Tests.{ne_eqb}
use Rattle.line.specs.Field.{field_at}
use Rattle.line.proofs.field_at.Goals as goal

pub returns-then-width-eq1 : goal.returns-then-width-eq1
unfolding field_at
returns-then-width-eq1 c = rw c.from.ensures (c.byte_at.ensures ∙ rw c.if-width-eq1.true)

pub returns-else-width-eq1 : goal.returns-else-width-eq1
unfolding field_at
returns-else-width-eq1 c = c.number_at.ensures ∙ rw (ne_eqb _ _ c.if-width-eq1.false)

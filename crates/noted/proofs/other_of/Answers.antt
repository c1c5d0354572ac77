use Rattle.model.specs.Ledger.{other_of}
use borrow.Author.Tests.{eq-eqb, ne_eqb}
use mathlib.Core.Path.{sym, ◌∙◌}
use Rattle.noted.proofs.other_of.Goals as goal

pub returns-then-used-lower : goal.returns-then-used-lower
unfolding other_of
returns-then-used-lower c = rw (eq-eqb _ _ (c.if-used-lower.true ∙ c.body-lower.ensures), c.body-lower.ensures)

pub returns-else-used-lower : goal.returns-else-used-lower
unfolding other_of
returns-else-used-lower c = rw (ne_eqb _ _ (λ q. c.if-used-lower.false (q ∙ sym c.body-lower.ensures)), c.body-lower.ensures)

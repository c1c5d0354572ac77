use Rattle.lists.proofs.Tests.{or_left}
use Rattle.model.specs.Spare.{spoiled}
use mathlib.Core.Path.{sym, ◌∙◌}
use Rattle.ledger.proofs.is_taken.Goals as goal

pub returns-then-is_entry : goal.returns-then-is_entry
returns-then-is_entry c = sym (or_left _ _ (sym c.is_entry.ensures ∙ c.if-is_entry.true))

pub returns : goal.returns
unfolding spoiled
returns c = rw (sym c.is_entry.ensures ∙ c.if-is_entry.false, c.kind_at.ensures)

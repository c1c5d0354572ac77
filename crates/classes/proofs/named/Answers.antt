use mathlib.Core.Path.{sym, ◌∙◌}
use Rattle.classes.proofs.named.Goals as goal

pub returns-then-is_a : goal.returns-then-is_a
returns-then-is_a c = rw (sym c.is_a.ensures ∙ c.if-is_a.true) c.back_of.ensures

pub returns-else-is_a : goal.returns-else-is_a
returns-else-is_a c = rw (sym c.is_a.ensures ∙ c.if-is_a.false)

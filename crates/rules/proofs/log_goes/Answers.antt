use Rattle.rules.specs.Pages.{log_goes}
use Rattle.model.specs.Spare.{ordinal}
use Rattle.lists.proofs.Tests.{if_true, if_false}
use borrow.Author.Tests.{eq-eqb, ne_eqb}
use mathlib.Core.Path.{sym, ◌∙◌}
use Rattle.rules.proofs.log_goes.Goals as goal

pub returns-then-page-eq0 : goal.returns-then-page-eq0
unfolding log_goes ordinal
returns-then-page-eq0 c = c.starts_write.ensures ∙ sym (if_true _ _ (eq-eqb _ _ c.if-page-eq0.true))

pub returns : goal.returns
unfolding log_goes ordinal
returns c = c.goes_on.ensures ∙ sym (if_false _ _ (ne_eqb _ _ c.if-page-eq0.false))

use Rattle.model.specs.Ledger.{found_fits}
use Rattle.lists.proofs.Tests.{if_true, if_false}
use mathlib.Core.Path.{sym, ◌∙◌}
use Rattle.holes.proofs.found_fits.Goals as goal

pub returns-then-marked : goal.returns-then-marked
unfolding found_fits
returns-then-marked c = c.loose_fits.ensures ∙ sym (if_true _ _ (sym c.requires.marked_value ∙ c.if-marked.true))

pub returns-else-marked : goal.returns-else-marked
unfolding found_fits
returns-else-marked c = c.bucket_fits.ensures ∙ sym (if_false _ _ (sym c.requires.marked_value ∙ c.if-marked.false))

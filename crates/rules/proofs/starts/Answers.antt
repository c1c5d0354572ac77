use mathlib.Core.Path.{sym, ◌∙◌}
use Rattle.rules.proofs.starts.Goals as goal

pub returns-then-not-log_fits : goal.returns-then-not-log_fits
returns-then-not-log_fits c = λ tag e. rw (sym (c.log_fits.ensures tag e) ∙ c.if-not-log_fits.true)

pub returns : goal.returns
returns c = λ tag e. rw (sym (c.log_fits.ensures tag e) ∙ c.if-not-log_fits.false) (c.kind_fits.ensures tag e)

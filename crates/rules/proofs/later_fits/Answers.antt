use mathlib.Core.Path.{sym, ◌∙◌}
use Rattle.rules.proofs.later_fits.Goals as goal

pub returns-then-not-same_bucket : goal.returns-then-not-same_bucket
returns-then-not-same_bucket c = rw (sym c.same_bucket.ensures ∙ c.if-not-same_bucket.true)

pub returns : goal.returns
returns c = rw (sym c.same_bucket.ensures ∙ c.if-not-same_bucket.false) c.log_goes.ensures

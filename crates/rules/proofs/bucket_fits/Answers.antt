use mathlib.Core.Path.{sym}
use Rattle.rules.proofs.bucket_fits.Goals as goal

pub returns-then-plainly_fits : goal.returns-then-plainly_fits
returns-then-plainly_fits c = sym (c.plainly_fits.ensures c.if-plainly_fits.true)

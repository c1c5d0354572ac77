use Rattle.model.specs.State.{top_epoch}
use mathlib.Core.Path.{◌∙◌}
use Rattle.fits.proofs.top_epoch.Goals as goal

pub returns : goal.returns
unfolding top_epoch
returns c = c.max.ensures ∙ rw (c.body_top-buckets.ensures, c.top_entry-entries.ensures)

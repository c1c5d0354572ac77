use mathlib.Core.Bool.{and_assoc, and-true}
use Rattle.lists.specs.Lists.{every}
use Rattle.fits.specs.Fits.{queues_fit}
use Rattle.fits.proofs.queues_fit.Goals as goal

pub returns : goal.returns
unfolding queues_fit every
returns c = rw (c.distinct.ensures, c.distinct-distinct.ensures, c.used-writes.ensures.0, c.used-reads.ensures.0) (simp (and_assoc, and-true))

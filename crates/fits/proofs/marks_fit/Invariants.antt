use mathlib.Core.Bool.{true}
use mathlib.Core.Path.{◌≡◌}
use lib.ListN.{take}
use Rattle.queue.specs.View.{entries_of}
use Rattle.model.specs.State.{mark_fits}
use Rattle.lists.specs.Lists.{all}
use Rattle.fits.proofs.marks_fit.Given as goal

abbrev pub invariant-loop-e : goal.invariant-loop-e
invariant-loop-e l = all (mark_fits (entries_of l.reads)) (take l.e-index l.e-items) ≡ true

-- What numbers 1 to 5 say to a drain once they are passed.
use mathlib.Core.Path.{◌∙◌}
use Rattle.model.specs.Sizes.{Device}
use Rattle.model.specs.State.{State}
use Rattle.fits.proofs.SameSpare.{same-fits}
use Rattle.checks.proofs.Opens.{Open, open_orderly, open_formed}
use Rattle.drain.specs.Listed.{Drains}

pub drains : {s : State} {d : Device} → Open s d → Drains s d.spare
drains {s} {d} o = record { orderly = open_orderly o; body_formed = open_formed o; fits = same-fits s d ∙ o.fits }

-- Number 5 is the sum of its parts.
use mathlib.Core.Path.{◌≡◌}
use mathlib.Core.Bool.{◌&&◌, and_assoc, and-true}
use Rattle.lists.specs.Lists.{every, all}
use Rattle.model.specs.Sizes.{Device, body}
use Rattle.model.specs.Ledger.{one_in_use}
use Rattle.model.specs.State.{State, queued, each_once, mark_fits, state_fits}
use Rattle.fits.specs.Fits.{queues_fit, tags_agree, numbers_fit}

pub parts : (s : State) (d : Device) → state_fits s d ≡ (each_once (body s.sizes) (queued s) && (queues_fit s && tags_agree s d && numbers_fit s d && all (mark_fits s.reads) s.writes && one_in_use s.sizes d))
unfolding state_fits queues_fit tags_agree numbers_fit every
parts s d = simp (and_assoc, and-true)

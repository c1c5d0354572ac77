use mathlib.Core.Path.{sym, ◌∙◌}
use Rattle.steps.specs.Turns.{after}
use Rattle.meter.specs.Run.{run_all}
use Rattle.meter.proofs.Stays.{stays_here}
use Rattle.model.specs.Operations.{make_place}
use Rattle.model.specs.Steps.{nothing}
use Rattle.read.proofs.make_place.Goals as goal

pub returns-then-holds : goal.returns-then-holds
unfolding make_place after nothing run_all
returns-then-holds c = record { after = rw (sym c.holds.ensures ∙ c.if-holds.true); stays = stays_here _ _ c.requires.lent }

pub returns : goal.returns
unfolding make_place after
returns c = record { after = rw (sym c.holds.ensures ∙ c.if-holds.false) c.drop_oldest.ensures.after; stays = c.drop_oldest.ensures.stays }

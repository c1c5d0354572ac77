use mathlib.Core.Path.{sym, ◌∙◌}
use Rattle.queue.specs.View.{entries_of}
use Rattle.queue.proofs.Found.{found_some, found_none}
use Rattle.arrival.specs.Arrives.{kept_fits}
use Rattle.arrival.proofs.fits.Goals as goal

pub returns-in-Some : goal.returns-in-Some
unfolding kept_fits
returns-in-Some c =
    let own = found_some c.args.b (entries_of c.args.s.writes) c.in-Some.own (sym c.find.ensures ∙ c.in-Some.is) in
    rw (own.held, own.blank, c.pages_for.ensures)

pub returns-in-None : goal.returns-in-None
unfolding kept_fits
returns-in-None c = rw (found_none c.args.b (entries_of c.args.s.writes) (sym c.find.ensures ∙ c.in-None.is)).held

use mathlib.Core.Path.{sym, ◌∙◌}
use Rattle.queue.proofs.Found.{found_some, found_none}
use Rattle.gather.proofs.logs_of.Goals as goal

pub returns-in-Some : goal.returns-in-Some
returns-in-Some c = (found_some _ _ _ (sym c.find.ensures ∙ c.in-Some.is)).caches

pub returns-in-None : goal.returns-in-None
returns-in-None c = (found_none _ _ (sym c.find.ensures ∙ c.in-None.is)).caches

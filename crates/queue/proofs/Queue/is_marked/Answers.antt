use mathlib.Core.Path.{sym, ◌∙◌}
use Rattle.queue.proofs.Found.{found_some, found_none}
use Rattle.queue.proofs.Queue.is_marked.Goals as goal

pub returns-in-Some : goal.returns-in-Some
returns-in-Some c = sym (found_some _ _ _ (sym c.find.ensures ∙ c.in-Some.is)).marked

pub returns-in-None : goal.returns-in-None
returns-in-None c = sym (found_none _ _ (sym c.find.ensures ∙ c.in-None.is)).marked

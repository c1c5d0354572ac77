use mathlib.Core.Path.{◌∙◌}
use Rattle.queue.specs.View.{entries_of}
use Rattle.queue.proofs.Found.{is_some-found}
use Rattle.queue.proofs.Queue.holds.Goals as goal

pub returns : goal.returns
returns c = c.is_some.ensures ∙ rw c.find.ensures (is_some-found c.args.b (entries_of c.args.self))

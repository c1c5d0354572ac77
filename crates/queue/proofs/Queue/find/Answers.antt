use mathlib.Core.Path.{ap, ◌∙◌}
use Rattle.lists.proofs.Arrays.{take-used}
use Rattle.queue.specs.View.{found}
use Rattle.queue.proofs.Queue.find.Goals as goal

pub returns : goal.returns
returns c =
    let q = c.args.self in
    let used = c.used-n in
    c.find_in.ensures ∙ ap (found c.args.b) (take-used used.result q.len q.items used.ensures.0)

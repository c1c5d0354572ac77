use mathlib.Core.Path.{sym, ◌∙◌}
use Rattle.model.specs.Operations.{is_current}
use Rattle.queue.specs.View.{entries_of}
use Rattle.queue.proofs.Found.{found_some, found_none}
use Rattle.read.proofs.stores_nothing.Goals as goal
use Rattle.read.proofs.stores_nothing.Goals.{in-Some, in-None}

pub returns : goal.returns
unfolding is_current
returns c =
    let b = c.args.b in
    let writes = entries_of c.args.s.writes in
    elim c.match-find.branch [
      | in-Some w ↦
          let own = found_some b writes w.in-Some.own (sym c.find.ensures ∙ w.in-Some.is) in
          rw (w.logged-is, c.holds.ensures, own.held, own.marked)
      | in-None w ↦ rw (w.logged-is, c.holds.ensures, (found_none b writes (sym c.find.ensures ∙ w.in-None.is)).held)
    ]

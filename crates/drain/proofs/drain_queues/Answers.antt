use borrow.Author.Rules.{rules}
use mathlib.Core.Path.{◌≡◌, refl, sym, ◌∙◌}
use native.Mathlib.Omega.{arith}
use lib.ListN.{length}
use lib.Seq.{length-take-le}
use Rattle.meter.specs.Lent.{run_of}
use Rattle.state.specs.View.{places_of}
use Rattle.steps.specs.Turns.{after}
use Rattle.unclean.proofs.Leaves.{same-drained}
use Rattle.drain.proofs.drain_queues.Goals as goal

pub returns : goal.returns
unfolding after
returns c =
    let a = c.args in
    let d = (run_of a.run.now).device in
    let units = c.write_units-run.ensures in
    record {
      after = rw (units.after, rw c.spare.ensures at c.drained-work.ensures.state_value ∙ same-drained a.s.sizes d (places_of a.s));
      stays = record { lent = units.lent_after; flash = refl; spare = refl; disk = refl };
    }

use Rattle.model.proofs.Write.{outgoing_held}
use Rattle.write.proofs.Yielded.{yields_evicts}
use Rattle.victim.proofs.SameSpare.{same_outgoing}
use Rattle.steps.specs.Turns.{after}
use Rattle.state.proofs.Queued.{all_on_chip}
use Rattle.state.specs.View.{places_of}
use Rattle.meter.specs.Run.{run_all}
use Rattle.meter.specs.Lent.{run_of}
use Rattle.meter.proofs.Stays.{stays_here}
use Rattle.model.specs.Operations.{evict_any, make_way}
use Rattle.model.specs.Steps.{nothing}
use mathlib.Core.Path.{sym, ◌∙◌}
use Rattle.write.proofs.make_way.Goals as goal

pub outgoing-requires : goal.outgoing-requires
outgoing-requires c = let p = c.requires in
    let orderly = p.yields.ready.orderly in
    record { chip = rw c.spare.ensures (record { limits = orderly.limits; spare_length = p.lent.spare_length }); writes_value = all_on_chip c.args.s.sizes _ orderly.writes }

pub evict-requires : goal.evict-requires
evict-requires c = let p = c.requires in
    let held = outgoing_held _ _ _ _ _ p.yields.ready.orderly.limits.w_low (sym (rw c.spare.ensures at c.in-Some.ensures)) in
    record { lent = p.lent; evicts = (yields_evicts p.yields _ held, p.yields.body_formed) }

pub returns-in-Some : goal.returns-in-Some
unfolding make_way evict_any after
returns-in-Some c =
    let a = c.args in
    let d = (run_of a.run.now).device in
    let says = sym (same_outgoing a.s.sizes d a.b (places_of a.s)) ∙ sym (rw c.spare.ensures at c.in-Some.ensures) in
    record { after = rw says c.evict.ensures.after; stays = c.evict.ensures.stays }

pub returns-in-None : goal.returns-in-None
unfolding make_way evict_any nothing after run_all
returns-in-None c = let a = c.args in
    let d = (run_of a.run.now).device in
    let says = sym (same_outgoing a.s.sizes d a.b (places_of a.s)) ∙ sym (rw c.spare.ensures at c.in-None.ensures) in
    record { after = rw says; stays = stays_here _ _ c.requires.lent }

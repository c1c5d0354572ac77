use mathlib.Core.Path.{sym, ◌∙◌}
use Rattle.steps.proofs.Kept.{dropped_orderly}
use Rattle.meter.specs.Lent.{run_of}
use Rattle.meter.proofs.Stays.{stays_here}
use Rattle.state.specs.View.{places_of}
use Rattle.evict.proofs.Evicted.{marked_evict, unmarked_evict}
use Rattle.evict.proofs.evict.Goals as goal

pub drop_write-requires : goal.drop_write-requires
drop_write-requires c = (dropped_orderly c.args.b (places_of c.args.s) c.requires.evicts.0.ready.orderly).bounded

pub returns-then-is_marked : goal.returns-then-is_marked
returns-then-is_marked c =
    let a = c.args in
    let marked = sym c.is_marked.ensures ∙ c.if-is_marked.true in
    record { after = rw c.drop_write.ensures (marked_evict (places_of a.s) a.b c.requires.evicts.0 a.s.sizes (run_of a.run.now) marked); stays = stays_here _ _ c.requires.lent }

pub returns : goal.returns
returns c =
    let a = c.args in
    let unmarked = sym c.is_marked.ensures ∙ c.if-is_marked.false in
    record { after = rw (← unmarked_evict (places_of a.s) a.b c.requires.evicts.0 a.s.sizes (run_of a.run.now) unmarked) c.put_out.ensures.after; stays = c.put_out.ensures.stays }

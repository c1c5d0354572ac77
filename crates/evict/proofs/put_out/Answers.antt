use mathlib.Core.Path.{refl}
use Rattle.meter.specs.Lent.{run_of}
use Rattle.state.specs.View.{places_of}
use Rattle.evict.proofs.Evicted.{dropped_left, put_out_by}
use Rattle.evict.proofs.put_out.Goals as goal

pub drop_write-requires : goal.drop_write-requires
drop_write-requires c =
    let a = c.args in
    (dropped_left (places_of a.s) a.b c.requires.evicts.0 a.s.sizes (run_of a.run.now) c.put_away.ensures.after).bounded

pub returns : goal.returns
returns c =
    let a = c.args in
    let put = c.put_away.ensures in
    record { after = rw c.drop_write.ensures (put_out_by (places_of a.s) a.b c.requires.evicts.0 a.s.sizes (run_of a.run.now) put.after refl); stays = put.stays }

use mathlib.Core.Path.{refl, sym, ◌∙◌}
use Rattle.model.specs.Steps.{write_out}
use Rattle.steps.specs.Turns.{after}
use Rattle.gather.proofs.Gathered.{sources_of}
use Rattle.evict.specs.PutAway.{put_away}
use Rattle.evict.proofs.Evicted.{copies}
use Rattle.evict.proofs.put_away.Goals as goal

pub copy-requires : goal.copy-requires
copy-requires c =
    let evicts = c.requires.evicts in
    record {
      lent = c.requires.lent;
      copies = (copies evicts.0 (sym c.holds.ensures ∙ c.if-holds.true), evicts.0.single);
      sources = sources_of evicts.0.ready.orderly evicts.1 evicts.0.back c.requires.lent;
    }

pub returns-then-holds : goal.returns-then-holds
unfolding put_away after
returns-then-holds c = record { after = rw (sym c.holds.ensures ∙ c.if-holds.true) c.copy.ensures.after; stays = c.copy.ensures.stays }

pub write_units-run-requires : goal.write_units-run-requires
write_units-run-requires c =
    let evicts = c.requires.evicts in
    sources_of evicts.0.ready.orderly evicts.1 evicts.0.back c.requires.lent

pub returns : goal.returns
unfolding put_away write_out after
returns c =
    let written = c.write_units-run.ensures in
    record { after = rw (sym c.holds.ensures ∙ c.if-holds.false, written.after); stays = record { lent = written.lent_after; flash = refl; spare = refl; disk = refl } }

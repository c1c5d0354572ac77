use Rattle.outcome.proofs.cut_short.Goals as goal

pub returns : goal.returns
returns c = rw c.stop-state.ensures

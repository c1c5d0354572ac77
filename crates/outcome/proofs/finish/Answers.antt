use Rattle.outcome.specs.Handed.{finished}
use Rattle.outcome.proofs.finish.Goals as goal

pub returns-then-m : goal.returns-then-m
unfolding finished
returns-then-m c = rw (c.cut_short.ensures, c.if-m.true)

pub returns : goal.returns
unfolding finished
returns c = rw (c.cleared-state.ensures, c.if-m.false)

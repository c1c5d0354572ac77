use Rattle.read.proofs.touched.Goals as goal

pub returns-then-last : goal.returns-then-last
returns-then-last c = rw c.if-last.true

pub returns : goal.returns
returns c = rw c.if-last.false c.touch.ensures

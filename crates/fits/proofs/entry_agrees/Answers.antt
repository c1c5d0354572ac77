use Rattle.fits.proofs.entry_agrees.Goals as goal

pub returns-then-written : goal.returns-then-written
returns-then-written c = rw c.if-written.true c.write_agrees.ensures

pub returns-else-written : goal.returns-else-written
returns-else-written c = rw c.if-written.false c.read_agrees.ensures

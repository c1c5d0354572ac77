use Rattle.drive.proofs.sizes_kept.Goals as goal

pub returns-then-formats : goal.returns-then-formats
returns-then-formats c = rw c.if-formats.true

pub returns-else-formats : goal.returns-else-formats
returns-else-formats c = rw c.if-formats.false

-- `reading::extra_at` meets its contract.

use Rattle.form.proofs.reading.extra_at.Goals as goal

pub returns-then-write : goal.returns-then-write
returns-then-write c = rw c.if-write.true c.byte_at.ensures

pub returns-else-write : goal.returns-else-write
returns-else-write c = rw c.if-write.false

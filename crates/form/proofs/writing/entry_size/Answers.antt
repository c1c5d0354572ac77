-- `writing::entry_size` meets its contract.
use Rattle.form.specs.Form.{entry_widths}
use Rattle.form.specs.Rows.{width}
use Rattle.form.proofs.writing.entry_size.Goals as goal

pub returns-then-write : goal.returns-then-write
unfolding width entry_widths
returns-then-write c = rw c.if-write.true

pub returns-else-write : goal.returns-else-write
unfolding width entry_widths
returns-else-write c = rw c.if-write.false

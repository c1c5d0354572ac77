-- `writing::mark` meets its contract.
use Rattle.form.specs.Form.{mark}
use Rattle.form.proofs.writing.mark.Goals as goal

pub returns-then-on : goal.returns-then-on
unfolding mark
returns-then-on c = rw c.if-on.true

pub returns-else-on : goal.returns-else-on
unfolding mark
returns-else-on c = rw c.if-on.false

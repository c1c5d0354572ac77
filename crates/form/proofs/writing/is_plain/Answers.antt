-- `writing::is_plain` meets its contract.
use mathlib.Core.Path.{refl}
use Rattle.form.specs.Form.{is_plain}
use Rattle.form.proofs.writing.is_plain.Goals as goal

pub returns : goal.returns
unfolding is_plain
returns c = refl

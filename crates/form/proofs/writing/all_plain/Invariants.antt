use mathlib.Core.Path.{◌≡◌}
use lib.ListN.{drop}
use Rattle.lists.specs.Lists.{all}
use Rattle.form.specs.Form.{is_plain}
use Rattle.form.proofs.writing.all_plain.Given as goal

abbrev pub invariant-loop-e : goal.invariant-loop-e
invariant-loop-e l = all is_plain l.entries ≡ all is_plain (drop l.e-index l.entries)

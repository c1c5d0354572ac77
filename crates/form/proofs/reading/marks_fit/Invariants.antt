use Prim.Native.Nat.{◌-◌, ◌+◌, ◌*◌}
use mathlib.Core.Bool.{true}
use mathlib.Core.Path.{◌≡◌}
use lib.ListN.{drop}
use Rattle.lists.specs.Lists.{all}
use Rattle.form.specs.Form.{entry_widths, is_entry}
use Rattle.form.specs.Rows.{rows_in}
use Rattle.form.proofs.reading.marks_fit.Given as goal

abbrev pub invariant-loop-i : goal.invariant-loop-i
invariant-loop-i l = all is_entry (rows_in (entry_widths true) l.n (drop (l.at + 1) l.bytes)) ≡ all is_entry (rows_in (entry_widths true) (l.n - l.i) (drop (l.at + 1 + l.i * 6) l.bytes))

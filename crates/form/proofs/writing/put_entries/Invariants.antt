use Rattle.form.specs.Form.{entry_widths, entry_numbers}
use Rattle.form.proofs.Written.{Left}
use Rattle.form.proofs.writing.put_entries.Given as goal

abbrev pub invariant-loop-e : goal.invariant-loop-e
invariant-loop-e l = Left (entry_widths l.write) (entry_numbers l.write) l.entries l.initial.out l.at l.out l.end l.e-index

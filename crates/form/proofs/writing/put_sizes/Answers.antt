-- `writing::put_sizes` meets its contract.
use native.Mathlib.Omega.{arith}
use borrow.Author.Rules.{rules}
use Rattle.form.specs.Form.{size_widths, size_numbers, entry_widths}
use Rattle.form.specs.Rows.{width}
use Rattle.form.proofs.Written.{row_laid}
use Rattle.form.proofs.writing.put_sizes.Goals as goal

pub put_number-requires : goal.put_number-requires
unfolding width entry_widths
put_number-requires c = search rules

pub put_number-requires-2 : goal.put_number-requires-2
unfolding width entry_widths
put_number-requires-2 c = search rules

pub put_number-requires-3 : goal.put_number-requires-3
unfolding width entry_widths
put_number-requires-3 c = search rules

pub put_number-requires-4 : goal.put_number-requires-4
unfolding width entry_widths
put_number-requires-4 c = search rules

pub put_number-requires-5 : goal.put_number-requires-5
unfolding width entry_widths
put_number-requires-5 c = search rules

pub put_number-requires-6 : goal.put_number-requires-6
unfolding width entry_widths
put_number-requires-6 c = search rules

pub returns : goal.returns
unfolding width size_numbers
returns c = let a = c.args in
    rw (c.put_number-6.ensures, c.put_number-5.ensures, c.put_number-4.ensures, c.put_number-3.ensures, c.put_number-2.ensures, c.put_number.ensures)
    (row_laid size_widths (size_numbers a.z) a.out.now 0 (omega arith))

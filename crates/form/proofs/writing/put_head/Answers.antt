-- `writing::put_head` meets its contract.
use native.Mathlib.Omega.{arith}
use borrow.Author.Rules.{rules}
use Rattle.state.specs.View.{places_of}
use Rattle.form.specs.Form.{size_widths, size_numbers, head_widths, head_numbers}
use Rattle.form.specs.Rows.{width}
use Rattle.form.proofs.Written.{row_laid}
use Rattle.form.proofs.writing.put_head.Goals as goal

pub put_sizes-requires : goal.put_sizes-requires
unfolding width
put_sizes-requires c = search rules

pub put_number-requires : goal.put_number-requires
unfolding width
put_number-requires c = search rules

pub put_number-requires-2 : goal.put_number-requires-2
unfolding width
put_number-requires-2 c = search rules

pub put_number-requires-3 : goal.put_number-requires-3
unfolding width
put_number-requires-3 c = search rules

pub returns : goal.returns
unfolding width size_numbers head_numbers
returns c = let a = c.args in
    rw (c.put_number-3.ensures, c.put_number-2.ensures, c.put_number.ensures, c.mark.ensures, c.put_sizes.ensures, ← row_laid size_widths (size_numbers a.s.sizes) a.out.now 0 (omega arith))
    (row_laid head_widths (head_numbers (places_of a.s)) a.out.now 0 (omega arith))

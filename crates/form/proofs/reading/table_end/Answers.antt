-- `reading::table_end` meets its contract.
use native.Mathlib.Omega.{arith}
use Rattle.form.specs.Rows.{table_size}
use Rattle.form.proofs.Found.{rows_small}
use Rattle.form.proofs.reading.table_end.Goals as goal

pub overflow_mul-result : goal.overflow_mul-result
overflow_mul-result c = let a = c.args in
    omega (arith, rows_small a.count c.number_at-rows.result a.row (omega arith) c.number_at-rows.ensures.1 (omega arith))

pub overflow_add-result-2 : goal.overflow_add-result-2
overflow_add-result-2 c = let a = c.args in
    omega (arith, rows_small a.count c.number_at-rows.result a.row (omega arith) c.number_at-rows.ensures.1 (omega arith))

pub returns : goal.returns
unfolding table_size
returns c = λ ws wide. rw (wide, c.number_at-rows.ensures.0) (omega arith)

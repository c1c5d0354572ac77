-- `reading::table_fits` meets its contract.
use native.Mathlib.Omega.{arith}
use lib.ListN.{length-drop}
use Rattle.form.specs.Rows.{table_size, table_fits}
use Rattle.form.proofs.Found.{rows_small}
use Rattle.form.proofs.reading.table_fits.Goals as goal

pub overflow_mul-result : goal.overflow_mul-result
overflow_mul-result c = let a = c.args in
    omega (arith, rows_small a.count c.number_at-rows.result a.row (omega arith) c.number_at-rows.ensures.1 (omega arith))

pub overflow_add-result : goal.overflow_add-result
overflow_add-result c = let a = c.args in
    omega (arith, rows_small a.count c.number_at-rows.result a.row (omega arith) c.number_at-rows.ensures.1 (omega arith))

pub returns : goal.returns
unfolding table_size table_fits
returns c = λ ws wide. let a = c.args in
    rw (wide, length-drop a.at a.bytes.now, c.number_at-rows.ensures.0)

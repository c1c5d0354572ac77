-- `writing::sizes_fit` meets its contract.
use lib.Dec.{ltb}
use Rattle.form.specs.Form.{size_numbers}
use Rattle.form.specs.Rows.{row_fits}
use Rattle.form.specs.Numbers.{in_bytes}
use Rattle.form.proofs.Found.{six_tests}
use Rattle.form.proofs.writing.sizes_fit.Goals as goal

pub returns : goal.returns
unfolding row_fits size_numbers in_bytes
returns c = let z = c.args.z in six_tests (ltb z.s 65536) (ltb z.p 256) (ltb z.c 65536) (ltb z.b 65536) (ltb z.r 256) (ltb z.w 256)

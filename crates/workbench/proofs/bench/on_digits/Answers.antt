-- `workbench::bench::on_digits` meets its contract.
use native.Mathlib.Omega.{arith}
use lib.ListN.{length-take}
use Rattle.model.proofs.Digits.{bytes_length}
use Rattle.workbench.proofs.bench.on_digits.Goals as goal

pub slice_bounds-decode-end-2 : goal.slice_bounds-decode-end-2
slice_bounds-decode-end-2 c = simp length-take (omega (arith, c.requires.hex.0.short, c.requires.hex.1))

pub decode-requires : goal.decode-requires
decode-requires c = let start = c in record { line_value = start.requires.hex.0.digits; out_in_bounds = simp length-take (omega (arith, bytes_length start.args.line.now)) }

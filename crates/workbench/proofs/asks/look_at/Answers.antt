-- `workbench::asks::look_at` meets its contract.
use native.Mathlib.Omega.{arith}
use Rattle.workbench.proofs.Outcomes.{look_short}
use Rattle.workbench.proofs.asks.look_at.Goals as goal

pub show-requires : goal.show-requires
show-requires c = let start = c in (rw c.look-bytes.ensures.result_value (omega (arith, look_short start.args.z start.args.flash.now c.number_at-bucket.result c.byte_at-page.result, start.requires.0)), start.requires.1)

-- `workbench::mail::write_behind` meets its contract.
use native.Mathlib.Omega.{arith}
use Rattle.send.proofs.Handed.{written_fits}
use Rattle.workbench.proofs.mail.write_behind.Goals as goal

pub returns : goal.returns
returns c = let write = c.write_text-written in
    omega (arith, (written_fits _ _ write.result _ _ write.ensures).0)

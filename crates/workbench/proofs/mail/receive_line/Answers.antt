-- `workbench::mail::receive_line` meets its contract.
use native.Mathlib.Omega.{arith}
use lib.ListN.{length-take}
use Rattle.workbench.proofs.mail.receive_line.Goals as goal

pub slice_bounds-read_text-end-2 : goal.slice_bounds-read_text-end-2
slice_bounds-read_text-end-2 c = let start = c in
    simp length-take (omega (arith, c.lent-lent.ensures.0, start.requires.1))

pub slice_bounds-read_text-end-4 : goal.slice_bounds-read_text-end-4
slice_bounds-read_text-end-4 c = let start = c in
    simp length-take (omega (arith, c.lent-lent.ensures.1, start.requires.2))

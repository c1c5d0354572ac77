-- `workbench::mail::send_line` meets its contract.
use native.Mathlib.Omega.{arith}
use lib.ListN.{length-take}
use Rattle.workbench.proofs.mail.send_line.Goals as goal

pub slice_bounds-send-end : goal.slice_bounds-send-end
slice_bounds-send-end c = let start = c in
    simp length-take (omega (arith, c.lent-lent.ensures.0, start.requires.flash_len.0))

pub slice_bounds-send-end-2 : goal.slice_bounds-send-end-2
slice_bounds-send-end-2 c = let start = c in
    simp length-take (omega (arith, c.lent-lent.ensures.1, start.requires.flash_len.1))

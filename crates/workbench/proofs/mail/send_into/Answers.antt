-- `workbench::mail::send_into` meets its contract.
use native.Mathlib.Omega.{arith}
use lib.ListN.{length-append, length-take}
use Rattle.workbench.proofs.mail.send_into.Goals as goal

pub slice_bounds-write_behind-end-2 : goal.slice_bounds-write_behind-end-2
slice_bounds-write_behind-end-2 c = let start = c in
    simp length-take (omega (arith, c.long_number-end.ensures, start.requires.0, start.requires.1))

pub write_behind-written-requires : goal.write_behind-written-requires
write_behind-written-requires c = let start = c in
    simp length-take (omega (arith, c.long_number-end.ensures, start.requires.0, start.requires.1))

pub overflow_add-count : goal.overflow_add-count
overflow_add-count c = let start = c in
    let kept = simp length-take at c.bytes-1.given in
    omega (arith, c.write_behind-written.ensures, c.long_number-end.ensures, start.requires.0)

pub slice_bounds-print-end : goal.slice_bounds-print-end
slice_bounds-print-end c = simp length-append (omega (arith, c.write_behind-written.ensures))

pub slice_bounds-print-end-2 : goal.slice_bounds-print-end-2
slice_bounds-print-end-2 c = simp (length-take, length-append) (omega (arith, c.write_behind-written.ensures))

pub print-requires : goal.print-requires
print-requires c = let start = c in
    let kept = simp length-take at c.bytes-1.given in (
      simp (length-take, length-append) (omega (arith, c.write_behind-written.ensures, c.long_number-end.ensures, start.requires.0)),
      start.requires.2,
    )

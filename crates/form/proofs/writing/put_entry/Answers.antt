-- `writing::put_entry` meets its contract.
use Prim.Native.Nat.{◌+◌}
use mathlib.Core.Bool.{true, false}
use mathlib.Core.Path.{◌≡◌}
use native.Mathlib.Omega.{arith}
use Rattle.form.specs.Form.{entry_numbers, entry_widths}
use Rattle.form.specs.Rows.{width}
use Rattle.form.proofs.Written.{entry_wide, row_laid}
use Rattle.form.proofs.writing.put_entry.Goals as goal

pub put_number-requires : goal.put_number-requires
put_number-requires c = omega (arith, entry_wide c.args.write, c.requires)

pub put_number-requires-2 : goal.put_number-requires-2
put_number-requires-2 c = omega (arith, entry_wide c.args.write, c.requires)

pub put_number-requires-then-write : goal.put_number-requires-then-write
unfolding width entry_widths
put_number-requires-then-write c = let room = rw c.if-write.true at c.requires in omega (arith, room)

pub put_number-requires-then-write-2 : goal.put_number-requires-then-write-2
unfolding width entry_widths
put_number-requires-then-write-2 c = let room = rw c.if-write.true at c.requires in omega (arith, room)

pub put_number-requires-then-write-3 : goal.put_number-requires-then-write-3
unfolding width entry_widths
put_number-requires-then-write-3 c = let room = rw c.if-write.true at c.requires in omega (arith, room)

pub returns-then-write : goal.returns-then-write
unfolding width entry_widths entry_numbers
returns-then-write c = let start = c in
    let a = start.args in
    let third : a.at + 3 ≡ (a.at + 2) + 1 = omega arith in
    let fourth : a.at + 4 ≡ ((a.at + 2) + 1) + 1 = omega arith in
    let fifth : a.at + 5 ≡ (((a.at + 2) + 1) + 1) + 1 = omega arith in
    let write = c.if-write.true in
    let room = rw write at start.requires in
    rw (write, c.put_number-then-write-3.ensures, c.put_number-then-write-2.ensures, c.mark.ensures, c.put_number-then-write.ensures, fifth, fourth, third, c.put_number-2.ensures, c.put_number.ensures)
    (row_laid (entry_widths true) (entry_numbers true a.e) a.out.now a.at room)

pub returns-else-write : goal.returns-else-write
unfolding width entry_widths entry_numbers
returns-else-write c = let a = c.args in
    let room = rw c.if-write.false at c.requires in
    rw (c.if-write.false, c.put_number-2.ensures, c.put_number.ensures)
    (row_laid (entry_widths false) (entry_numbers false a.e) a.out.now a.at room)

use Rattle.lists.proofs.Members.{lent_rest}
use lib.ListN.{length, get_or, length-drop, length-set}
use Prim.Native.Nat.{◌+◌, ◌<◌}
use Rattle.classes.proofs.Turns.{here, later, last_length, last_at, fill_more, fill_end}
use Rattle.classes.specs.Columns.{last_of_each}
use mathlib.Core.Path.{◌≡◌, sym, ◌∙◌}
use native.Mathlib.Omega.{arith}
use Rattle.classes.proofs.last_of_each.Goals as goal

pub occurring-requires : goal.occurring-requires
occurring-requires c = let l = c.loop-i in
    rw (lent_rest l.column (l.i + 1)) (omega (arith, length-drop (l.i + 1) l.column, l.invariant.0))

pub loop-i-preserved : goal.loop-i-preserved
loop-i-preserved c = let l = c.loop-i in
    let column = c.args.column.now in
    let same = sym (last_length column) in
    let inside : l.i < length column = omega arith in
    let value : c.occurring.result ≡ get_or (last_of_each column) l.i 0 =
    c.occurring.ensures
    ∙ rw (lent_rest l.column (l.i + 1), later (last_of_each column) column same l.i l.invariant.1 inside, here (last_of_each column) column same l.i l.invariant.1 inside)
    (sym (last_at column l.i inside)) in
    (length-set l.column l.i c.occurring.result ∙ l.invariant.0, fill_more (last_of_each column) column same l.i l.invariant.1 (omega (arith, last_length column)) value)

pub shape_of-column : goal.shape_of-column
shape_of-column c = c.loop-i.invariant.0

pub returns : goal.returns
returns c = let column = c.args.column.now in
    fill_end (last_of_each column) column (sym (last_length column)) c.loop-i.i c.loop-i.invariant.1 (omega (arith, last_length column))

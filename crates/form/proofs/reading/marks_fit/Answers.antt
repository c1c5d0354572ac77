-- `reading::marks_fit` meets its contract.
use Prim.Native.Nat.{◌-◌, ◌+◌, ◌*◌}
use mathlib.Core.Bool.{true}
use mathlib.Core.Path.{◌≡◌, sym, ◌∙◌}
use native.Mathlib.Omega.{arith}
use borrow.Author.Tests.{le-leb, lt-leb}
use Rattle.lists.specs.Lists.{all}
use Rattle.form.specs.Form.{entry_widths}
use Rattle.form.specs.Rows.{rows_in}
use Rattle.form.proofs.Found.{mark_at, next_row, table_at}
use Rattle.form.proofs.Places.{write_wide}
use Rattle.form.proofs.reading.marks_fit.Goals as goal

pub loop-i-init : goal.loop-i-init
loop-i-init c =
    let all_left : c.number_at-n.result - 0 ≡ c.number_at-n.result = omega arith in
    let first : c.args.at + 1 + 0 * 6 ≡ c.args.at + 1 = omega arith in
    rw (all_left, first)

pub returns-then-mark-gt1 : goal.returns-then-mark-gt1
unfolding all
returns-then-mark-gt1 c = let a = c.args in
    let l = c.loop-i in
    let count = c.number_at-n in
    let from = a.at + 1 + l.i * 6 in
    let high = rw c.byte_at-mark.ensures at c.if-mark-gt1.true in
    rw (table_at 1 (entry_widths true) a.bytes.now a.at count.result count.ensures.0)
    (sym (l.invariant ∙ rw (next_row (entry_widths true) a.bytes.now from count.result l.i c.loop-i-test.true, mark_at a.bytes.now from, lt-leb _ _ high)))

pub loop-i-preserved : goal.loop-i-preserved
unfolding all
loop-i-preserved c = let a = c.args in
    let l = c.loop-i in
    let count = c.number_at-n in
    let from = a.at + 1 + l.i * 6 in
    let next : a.at + 1 + (l.i + 1) * 6 ≡ from + 6 = omega arith in
    let low = rw c.byte_at-mark.ensures at c.if-mark-gt1.false in
    let row = rw write_wide at (next_row (entry_widths true) a.bytes.now from count.result l.i c.loop-i-test.true) in
    l.invariant ∙ rw (next, row, mark_at a.bytes.now from, le-leb _ _ low)

pub returns : goal.returns
unfolding all rows_in
returns c = let a = c.args in
    let count = c.number_at-n in
    let none : count.result - c.loop-i.i ≡ 0 = omega arith in
    rw (table_at 1 (entry_widths true) a.bytes.now a.at count.result count.ensures.0) (sym (c.loop-i.invariant ∙ rw none))

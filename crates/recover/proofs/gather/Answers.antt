use Prim.Native.Nat.{◌<◌}
use mathlib.Core.Bool.{not, true, false}
use Rattle.recover.proofs.Queues.{picked_more, picked_room}
use Rattle.recover.specs.Kept.{picked}
use Rattle.classes.specs.Columns.{nowhere, is_named}
use borrow.Author.Tests.{eq-eqb, ne_eqb}
use lib.Seq.{take-suc-set}
use lib.ListN.{length, take, get_or, length-set, length-append}
use mathlib.Core.List.{[], ◌∷◌, append-nil, append_assoc}
use mathlib.Core.Path.{◌≡◌, ap, sym, ◌∙◌}
use native.Mathlib.Numerals.{add-one}
use native.Mathlib.Omega.{arith}
use borrow.Author.Rules.{rules}
use Rattle.recover.proofs.gather.Goals.{then-column-i, else-column-i}
use Rattle.recover.proofs.gather.Goals as goal

pub loop-i-init : goal.loop-i-init
unfolding picked
loop-i-init c = (search rules, omega arith, sym (append-nil _))

pub bounds-items-n : goal.bounds-items-n
bounds-items-n c =
    let l = c.loop-i in
    let x = c.args in
    omega (arith, l.invariant.1, c.used-n.ensures.0, picked_room x.column.now x.order.now l.i c.requires.column_len (omega arith) (ap not (ne_eqb _ nowhere c.if-column-i.true)))

pub loop-i-preserved : goal.loop-i-preserved
loop-i-preserved c =
    let l = c.loop-i in
    let x = c.args in
    let m = x.column.now in
    let o = x.order.now in
    let inside : l.i < length m = omega arith in
    let done = picked (take l.i m) (take l.i o) in
    elim c.if-column-i.branch [
      | then-column-i w ↦ let named : is_named (get_or m l.i 0) ≡ true = ap not (ne_eqb (get_or m l.i 0) nowhere w.if-column-i.true) in
          let more = picked_more m o l.i c.requires.column_len inside true named in
          let room = picked_room m o l.i c.requires.column_len inside named in
          let fits : l.n < length l.items = omega (arith, l.invariant.0, l.invariant.1, c.used-n.ensures.0) in (
            ap length w.items-is ∙ length-set l.items l.n _ ∙ l.invariant.0,
            rw more (omega (arith, w.n-is, l.invariant.1, length-append done (get_or o l.i 0 ∷ []))),
            rw (w.n-is, w.items-is, add-one l.n, take-suc-set l.items l.n (get_or o l.i 0) fits, more, l.invariant.2) (append_assoc (take c.used-n.result x.list.items) done (get_or o l.i 0 ∷ [])),
          )
      | else-column-i w ↦ let none : is_named (get_or m l.i 0) ≡ false = ap not (eq-eqb (get_or m l.i 0) nowhere w.if-column-i.false) in
          let same = picked_more m o l.i c.requires.column_len inside false none ∙ append-nil done in
          (ap length w.items-is ∙ l.invariant.0, rw same (omega (arith, w.n-is, l.invariant.1)), rw (same, w.n-is, w.items-is) l.invariant.2)
    ]

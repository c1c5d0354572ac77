use Rattle.recover.proofs.Queues.{differing_more, differing_room}
use Rattle.recover.specs.Kept.{entry_of, differing}
use Rattle.image.specs.Chip.{spare_only}
use Rattle.model.proofs.Limits.{on_chip}
use Rattle.model.specs.State.{is_below}
use Rattle.model.specs.Sizes.{body}
use Rattle.lists.proofs.Arrays.{length_mapped, all_at}
use Rattle.lists.proofs.Rows.{map_append}
use borrow.Author.Tests.{eq-eqb, ne_eqb, ltb-true}
use lib.Seq.{take-suc-set}
use lib.ListN.{length, take, get_or, length-set, length-append}
use mathlib.Core.List.{[], ◌∷◌, append-nil}
use mathlib.Core.Bool.{true, false}
use mathlib.Core.Path.{refl, ap, sym, ◌∙◌}
use Prim.Native.Nat.{◌<◌}
use native.Mathlib.Numerals.{add-one}
use native.Mathlib.Omega.{arith}
use borrow.Author.Rules.{rules}
use Rattle.recover.proofs.kept_queue.Goals.{then-column-i, else-column-i}
use Rattle.recover.proofs.kept_queue.Goals as goal

pub loop-i-init : goal.loop-i-init
unfolding differing
loop-i-init c = (search (rules, length_mapped), refl, refl)

pub entry_of-requires-clause-c_lt_c : goal.entry_of-requires-clause-c_lt_c
unfolding is_below
entry_of-requires-clause-c_lt_c c =
    let a = c.args in
    let i = c.loop-i.i in
    on_chip a.z (get_or a.order.now i 0) (ltb-true _ (body a.z) (all_at (is_below (body a.z)) a.order.now c.requires.order_value i 0 (omega arith)))

pub bounds-items-n : goal.bounds-items-n
bounds-items-n c =
    let l = c.loop-i in
    let x = c.args in
    omega (arith, l.invariant.1, differing_room x.column.now x.dropped.now x.order.now l.i c.requires.column_len.0 c.requires.column_len.1 (omega arith) (ne_eqb _ _ c.if-column-i.true))

pub loop-i-preserved : goal.loop-i-preserved
loop-i-preserved c =
    let l = c.loop-i in
    let x = c.args in
    let m = x.column.now in
    let n = x.dropped.now in
    let o = x.order.now in
    let f = entry_of x.z (spare_only x.spare.now) x.counted in
    let inside : l.i < length o = omega arith in
    let done = differing (take l.i m) (take l.i n) (take l.i o) in
    elim c.if-column-i.branch [
      | then-column-i w ↦ let differ = ne_eqb (get_or m l.i 0) (get_or n l.i 0) w.if-column-i.true in
          let more = differing_more m n o l.i c.requires.column_len.0 c.requires.column_len.1 inside false differ in
          let room = differing_room m n o l.i c.requires.column_len.0 c.requires.column_len.1 inside differ in
          let fits : l.n < length l.items = omega (arith, l.invariant.0, l.invariant.1) in (
            ap length w.items-is ∙ length-set l.items l.n _ ∙ l.invariant.0,
            rw more (omega (arith, w.n-is, l.invariant.1, length-append done (get_or o l.i 0 ∷ []))),
            rw (w.n-is, w.items-is, add-one l.n, take-suc-set l.items l.n w.entry_of.result fits, more, l.invariant.2, w.entry_of.ensures) (sym (map_append f done (get_or o l.i 0 ∷ []))),
          )
      | else-column-i w ↦ let alike = eq-eqb (get_or m l.i 0) (get_or n l.i 0) w.if-column-i.false in
          let same = differing_more m n o l.i c.requires.column_len.0 c.requires.column_len.1 inside true alike ∙ append-nil done in
          (ap length w.items-is ∙ l.invariant.0, rw same (omega (arith, w.n-is, l.invariant.1)), rw (same, w.items-is, w.n-is) l.invariant.2)
    ]

use Prim.Native.Nat.{ℕ}
use lib.ListN.{get_or}
use mathlib.Core.List.{[], ◌∷◌}
use lib.Seq.{take_all}
use Rattle.lists.proofs.Counts.{times_self, times_other}
use Rattle.lists.proofs.Filters.{times_more}
use Rattle.lists.specs.Lists.{times}
use mathlib.Core.Path.{refl, ap, sym, ◌∙◌}
use native.Mathlib.Omega.{arith}
use Rattle.classes.proofs.occurrences.Goals.{else-b-x, then-b-x}
use Rattle.classes.proofs.occurrences.Goals as goal

pub loop-x-init : goal.loop-x-init
unfolding times
loop-x-init c = (omega arith, refl)

pub loop-x-preserved : goal.loop-x-preserved
loop-x-preserved c = let l = c.loop-x in
    let x = c.args in
    let more = times_more x.b l.x-index x.column.now (omega arith) in
    elim c.if-b-x.branch [
      | then-b-x w ↦ (omega (arith, w.count-is), omega (arith, w.count-is, more, l.invariant.1, ap (λ (y : ℕ). times x.b (y ∷ [])) (sym w.if-b-x.true), times_self x.b))
      | else-b-x w ↦ (omega (arith, w.count-is), omega (arith, w.count-is, more, l.invariant.1, times_other x.b (get_or x.column.now l.x-index 0) w.if-b-x.false))
    ]

pub returns : goal.returns
returns c = let column = c.args.column.now in
    c.loop-x.invariant.1 ∙ ap (times c.args.b) (take_all c.loop-x.x-index column (omega arith))

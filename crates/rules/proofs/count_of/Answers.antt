use Rattle.lists.proofs.Counts.{times_self, times_other, times_append}
use Rattle.lists.proofs.Arrays.{done_more}
use Rattle.lists.specs.Lists.{times}
use lib.Seq.{take_all}
use lib.ListN.{take, get_or}
use mathlib.Core.List.{[], ◌∷◌}
use mathlib.Core.Path.{◌≡◌, refl, sym, ap, ◌∙◌}
use Prim.Native.Nat.{ℕ, ◌+◌}
use native.Mathlib.Omega.{arith}
use Rattle.rules.proofs.count_of.Goals as goal
use Rattle.rules.proofs.count_of.Goals.{then-x-y, else-x-y}

pub loop-y-init : goal.loop-y-init
unfolding times
loop-y-init c = (omega arith, refl)

pub overflow_add-n : goal.overflow_add-n
overflow_add-n c = omega (arith, c.requires)

pub loop-y-preserved : goal.loop-y-preserved
loop-y-preserved c = let l = c.loop-y in let a = c.args in
    let here = get_or a.items.now l.y-index 0 in
    let grown : times a.x (take (l.y-index + 1) a.items.now) ≡ times a.x (take l.y-index a.items.now) + times a.x (here ∷ []) =
    ap (times a.x) (done_more l.y-index a.items.now 0 (omega arith)) ∙ times_append a.x (take l.y-index a.items.now) (here ∷ []) in
    elim c.if-x-y.branch [
      | then-x-y w ↦ (omega (arith, w.n-is), omega (arith, w.n-is, l.invariant.1, grown, ap (λ (v : ℕ). times a.x (v ∷ [])) (sym w.if-x-y.true) ∙ times_self a.x))
      | else-x-y w ↦ (omega (arith, w.n-is), omega (arith, w.n-is, l.invariant.1, grown, times_other a.x here w.if-x-y.false))
    ]

pub returns : goal.returns
returns c = let l = c.loop-y in let a = c.args in l.invariant.1 ∙ ap (times a.x) (take_all l.y-index a.items.now (omega arith))

use Rattle.std.proofs.Common.{◌&&◌, ◌+◌, ◌∙◌, refl, sym, ap, arith, drop}
use mathlib.Core.Bool.{and_assoc, and-true}
use Rattle.lists.specs.Lists.{same}
use Rattle.lists.proofs.Sames.{same_more, same_end, same-lengths}
use Rattle.spare.proofs.equal.Goals as goal

pub returns-then-a-b : goal.returns-then-a-b
returns-then-a-b c = sym (same-lengths _ _ c.if-a-b.true)

pub loop-i-init : goal.loop-i-init
loop-i-init c = (omega arith, refl)

pub loop-i-preserved : goal.loop-i-preserved
loop-i-preserved c =
    let a = c.args.a.now in
    let b = c.args.b.now in
    let l = c.loop-i in (
      l.invariant.0,
      and_assoc l.alike _ (same (drop (l.i + 1) a) (drop (l.i + 1) b)) ∙ (ap (λ t. l.alike && t) (sym (same_more a b l.i (omega arith) (omega arith))) ∙ l.invariant.1),
    )

pub returns : goal.returns
returns c =
    let l = c.loop-i in
    sym (and-true l.alike) ∙ (ap (λ t. l.alike && t) (sym (same_end c.args.a.now c.args.b.now l.i (omega arith) (omega arith))) ∙ l.invariant.1)

use mathlib.Core.Path.{sym, ap, ◌∙◌}
use Prim.Native.Nat.{◌-◌}
use native.Mathlib.Omega.{arith}
use lib.ListN.{length}
use Rattle.merge.proofs.Meet.{met}
use Rattle.lists.proofs.Windows.{window_apart}
use Rattle.lists.specs.Lists.{part, splice}
use Rattle.merge.proofs.lay.Goals as goal

pub returns-then-end-start : goal.returns-then-end-start
returns-then-end-start c = λ whole shown fits e.
    let a = c.args in
    e ∙ sym (window_apart whole a.from (length a.window.now) a.at a.bytes.now shown fits (omega (arith, c.if-end-start.true, c.min-end.ensures, c.max-start.ensures)))

pub returns : goal.returns
unfolding part
returns c = λ whole shown fits e.
    let a = c.args in
    let start = c.max-start in
    let end = c.min-end in
    c.write_at.ensures
    ∙ ap (λ l. splice l (start.result - a.from) (part a.bytes.now (start.result - a.at) ((end.result - a.at) - (start.result - a.at)))) e
    ∙ sym (met whole a.bytes.now a.from (length a.window.now) a.at start.result end.result shown fits start.ensures end.ensures (omega (arith, c.if-end-start.false)))

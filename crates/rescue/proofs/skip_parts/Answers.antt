use mathlib.Core.Path.{sym, ◌∙◌}
use native.Mathlib.Nat.{add-sub_cancel_left}
use Rattle.lists.specs.Lists.{part}
use Rattle.rescue.proofs.Places.{passed_part}
use Rattle.rescue.proofs.skip_parts.Goals as goal

pub loop-at-preserved : goal.loop-at-preserved
unfolding part
loop-at-preserved c =
    let l = c.loop-at in
    passed_part c.args.x c.args.column.now l.invariant 16 c.loop-at-test.true (rw (add-sub_cancel_left l.at 16) at (sym c.occurs.ensures ∙ c.if-occurs.false))

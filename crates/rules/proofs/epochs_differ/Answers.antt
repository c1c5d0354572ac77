use borrow.Author.Rules.{rules}
use native.Mathlib.Omega.{arith}
use mathlib.Core.Path.{◌≡◌, refl, sym, ap, ◌∙◌}
use lib.ListN.{length, length-set}
use Rattle.lists.specs.Lists.{keep, row, below}
use Rattle.rules.proofs.Epochs.{gathered_more, gathered_same}
use Rattle.rules.proofs.epochs_differ.Goals as goal
use Rattle.rules.proofs.epochs_differ.Goals.{in-Some, in_default}

pub loop-c-init : goal.loop-c-init
unfolding keep below row
loop-c-init g c = (omega arith, search rules, λ test f says. refl)

pub loop-c-preserved : goal.loop-c-preserved
loop-c-preserved g c = let l = c.loop-c in
    elim c.match-epoch.branch [
      | in-Some w ↦ (
        omega (arith, w.n-is),
        ap length w.epochs-is ∙ length-set l.epochs l.n w.in-Some.own ∙ l.invariant.1,
        λ test f says. rw (w.n-is, w.epochs-is)
            (gathered_more test f l.epochs l.n l.c (omega arith) (l.invariant.2 test f says) w.in-Some.own (sym w.in-Some.is ∙ says l.c c.epoch.result c.loop-c-test.true c.epoch.ensures)),
      )
      | in_default w ↦ (
        omega (arith, w.n-is),
        ap length w.epochs-is ∙ l.invariant.1,
        λ test f says. rw (w.n-is, w.epochs-is)
            (gathered_same test f l.epochs l.n l.c (omega arith) (l.invariant.2 test f says) (sym w.in_default.is ∙ says l.c c.epoch.result c.loop-c-test.true c.epoch.ensures)),
      )
    ]

pub returns : goal.returns
returns g c = λ test f says. let e : c.loop-c.c ≡ c.args.end = omega arith in rw (c.loop-c.invariant.2 test f says, e) at c.all_differ.ensures

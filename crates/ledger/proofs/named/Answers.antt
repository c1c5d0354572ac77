use borrow.Author.Rules.{rules}
use Rattle.ledger.proofs.Names.{no_marks, marks_more, marks_same}
use Rattle.image.specs.Chip.{spare_only}
use Rattle.model.specs.Ledger.{names, named}
use Rattle.model.specs.Sizes.{body}
use Rattle.lists.proofs.Tests.{and_false}
use Rattle.lists.specs.Lists.{any_below}
use lib.Dec.{ltb}
use lib.ListN.{length, length-set}
use native.Mathlib.Omega.{arith}
use mathlib.Core.Bool.{true}
use mathlib.Core.Path.{◌≡◌, sym, ap, ◌∙◌}
use Prim.Native.Nat.{◌*◌}
use Rattle.ledger.proofs.named.Goals as goal
use Rattle.ledger.proofs.named.Goals.{in-Some, in_default}

pub loop-i-init : goal.loop-i-init
unfolding any_below
loop-i-init c = (search rules, λ x. no_marks 256 x ∙ sym (and_false (ltb x (body c.args.z))))

pub bounds-marks-x : goal.bounds-marks-x
bounds-marks-x c = omega (arith, c.in-Some.ensures.0, c.requires.limits.ledger_in, c.requires.limits.c_high)

pub loop-i-preserved : goal.loop-i-preserved
loop-i-preserved c = let z = c.args.z in let d = spare_only c.args.spare.now in let l = c.loop-i in
    elim c.match-named_by.branch [
      | in-Some w ↦ let y = w.in-Some.x in let here = w.in-Some.ensures in (
        ap length w.marks-is ∙ length-set l.marks y true ∙ l.invariant.0,
        rw w.marks-is (marks_more (body z) l.marks (names z d) l.i l.invariant.1 y here.0 (omega (arith, here.0, l.invariant.0, c.requires.limits.ledger_in, c.requires.limits.c_high)) here.1),
      )
      | in_default w ↦ (
        ap length w.marks-is ∙ l.invariant.0,
        rw w.marks-is (marks_same (body z) l.marks (names z d) l.i l.invariant.1 w.in_default.ensures),
      )
    ]

pub returns : goal.returns
unfolding named
returns c = let e : c.loop-i.i ≡ 2 * c.args.z.p = omega arith in rw e at c.loop-i.invariant.1

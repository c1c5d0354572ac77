use Rattle.lists.proofs.Filters.{take_more, pass_more}
use Rattle.classes.specs.Columns.{is_kind}
use Rattle.lists.specs.Lists.{keep, row, below}
use Rattle.model.specs.Sizes.{body}
use Rattle.model.specs.Recover.{buckets}
use Rattle.image.specs.Chip.{spare_only}
use borrow.Author.Rules.{rules}
use lib.ListN.{length-set, length}
use lib.Seq.{take-suc-set}
use native.Mathlib.Omega.{arith}
use native.Mathlib.Numerals.{add-one}
use mathlib.Core.Path.{◌≡◌, refl, sym, ap, ◌∙◌}
use Rattle.classes.proofs.buckets.Goals.{else-is_a, then-is_a}
use Rattle.classes.proofs.buckets.Goals as goal

pub loop-c-init : goal.loop-c-init
unfolding keep below row
loop-c-init c = (omega arith, search rules, refl)

pub loop-c-preserved : goal.loop-c-preserved
loop-c-preserved c = let l = c.loop-c in
    let e = sym c.is_a.ensures in
    let t = is_kind c.args.z (spare_only c.args.spare.now) c.args.kind in
    elim c.if-is_a.branch [
      | then-is_a w ↦ (
        omega (arith, w.n-is),
        ap length w.items-is ∙ length-set l.items l.n l.c ∙ l.invariant.1,
        rw (w.n-is, w.items-is, add-one l.n, take-suc-set l.items l.n l.c (omega arith), l.invariant.2) (sym (take_more t l.c (e ∙ w.if-is_a.true))),
      )
      | else-is_a w ↦ (
        omega (arith, w.n-is),
        ap length w.items-is ∙ l.invariant.1,
        rw (w.n-is, w.items-is, l.invariant.2) (sym (pass_more t l.c (e ∙ w.if-is_a.false))),
      )
    ]

pub returns : goal.returns
unfolding buckets
returns c = let e : c.loop-c.c ≡ body c.args.z = omega arith in
    rw e at c.loop-c.invariant.2

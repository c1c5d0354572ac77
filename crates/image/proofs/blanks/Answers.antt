use mathlib.Core.Path.{◌≡◌, refl, sym, ◌∙◌}
use native.Mathlib.Omega.{arith}
use Rattle.image.specs.Chip.{spare_only}
use Rattle.model.specs.Image.{page_blank, blanks}
use Rattle.lists.proofs.Turns.{count_more, count_same}
use Rattle.lists.proofs.Rows.{count_le}
use Rattle.lists.specs.Lists.{count_below}
use Rattle.image.proofs.blanks.Goals as goal
use Rattle.image.proofs.blanks.Goals.{then-page_blank, else-page_blank}

pub loop-k-init : goal.loop-k-init
unfolding count_below
loop-k-init c = refl

pub overflow_add-count : goal.overflow_add-count
overflow_add-count c =
    let a = c.args in
    omega (arith, count_le c.loop-k.k (page_blank a.z (spare_only a.spare.now) a.c))

pub loop-k-preserved : goal.loop-k-preserved
loop-k-preserved c =
    let l = c.loop-k in
    let a = c.args in
    let t = page_blank a.z (spare_only a.spare.now) a.c in
    let e = sym c.page_blank.ensures in
    elim c.if-page_blank.branch [
      | then-page_blank w ↦ w.count-is ∙ rw (l.invariant, count_more l.k t (e ∙ w.if-page_blank.true))
      | else-page_blank w ↦ w.count-is ∙ rw (l.invariant, count_same l.k t (e ∙ w.if-page_blank.false))
    ]

pub returns : goal.returns
unfolding blanks
returns c =
    let all : c.loop-k.k ≡ c.args.z.p = omega arith in
    rw all at c.loop-k.invariant

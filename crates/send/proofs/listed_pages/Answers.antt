-- `send::listed_pages` meets its contract.
use mathlib.Core.Path.{◌≡◌, refl, sym, ◌∙◌}
use Prim.Native.Nat.{◌*◌}
use native.Mathlib.Omega.{arith}
use Rattle.lists.specs.Lists.{count_below}
use Rattle.lists.proofs.Turns.{count_more, count_same}
use Rattle.lists.proofs.Rows.{count_le}
use Rattle.model.specs.Mail.{is_listed}
use Rattle.geometry.proofs.Passed.{products}
use Rattle.send.proofs.Lengths.{tag_inside}
use Rattle.send.proofs.listed_pages.Invariants.{listed}
use Rattle.send.proofs.listed_pages.Goals.{then-is_listed, else-is_listed}
use Rattle.send.proofs.listed_pages.Goals as goal

pub overflow_mul-pages : goal.overflow_mul-pages
overflow_mul-pages c = omega (arith, (products c.requires.0).pages)

pub loop-page-init : goal.loop-page-init
unfolding count_below
loop-page-init c = refl

pub is_listed-requires : goal.is_listed-requires
is_listed-requires c = rw c.requires.1 (tag_inside c.args.z c.loop-page.page c.loop-page-test.true)

pub overflow_add-count : goal.overflow_add-count
overflow_add-count c = omega (arith, count_le c.loop-page.page (listed c.args.spare.now), (products c.requires.0).pages)

pub loop-page-preserved : goal.loop-page-preserved
loop-page-preserved c = let l = c.loop-page in
    let t = listed c.args.spare.now in
    let e = sym c.is_listed.ensures in
    elim c.if-is_listed.branch [
      | then-is_listed w ↦ w.count-is ∙ rw (l.invariant, count_more l.page t (e ∙ w.if-is_listed.true))
      | else-is_listed w ↦ w.count-is ∙ rw (l.invariant, count_same l.page t (e ∙ w.if-is_listed.false))
    ]

pub returns : goal.returns
unfolding is_listed
returns c = let e : c.loop-page.page ≡ c.args.z.c * c.args.z.p = omega arith in
    rw e at c.loop-page.invariant

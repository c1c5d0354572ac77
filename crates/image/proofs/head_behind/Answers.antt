use native.Mathlib.Omega.{arith}
use mathlib.Core.Path.{◌≡◌, refl, sym, ◌∙◌}
use Prim.Native.Nat.{◌-◌}
use borrow.Author.Tests.{eqb-true, eq-eqb}
use Rattle.lists.proofs.Tests.{and-true}
use Rattle.lists.proofs.Turns.{all_more}
use Rattle.lists.proofs.Rows.{all-below}
use Rattle.lists.specs.Lists.{all_below}
use Rattle.model.specs.Spare.{spoiled}
use Rattle.model.specs.Stores.{tag_of}
use Rattle.model.specs.Sizes.{page_index}
use Rattle.model.specs.Image.{page_spoiled}
use Rattle.image.specs.Chip.{spare_only}
use Rattle.image.proofs.First.{head_at}
use Rattle.image.proofs.Place.{page_inside}
use Rattle.image.proofs.head_behind.Goals as goal

pub overflow_sub-last : goal.overflow_sub-last
overflow_sub-last c = omega (arith, c.requires.chip.limits.p_low)

pub loop-k-init : goal.loop-k-init
unfolding all_below
loop-k-init c = refl

pub overflow_mul-c : goal.overflow_mul-c
overflow_mul-c c = omega (arith, page_inside {k = c.loop-k.k} c.requires.chip c.requires.c_lt_c (omega arith))

pub overflow_add-c : goal.overflow_add-c
overflow_add-c c = omega (arith, page_inside {k = c.loop-k.k} c.requires.chip c.requires.c_lt_c (omega arith))

pub kind_at-requires : goal.kind_at-requires
kind_at-requires c = page_inside c.requires.chip c.requires.c_lt_c (omega arith)

pub returns-then-kind_at-ne-SPOILED_KIND : goal.returns-then-kind_at-ne-SPOILED_KIND
unfolding page_spoiled spoiled tag_of page_index
returns-then-kind_at-ne-SPOILED_KIND c =
    let a = c.args in
    let d = spare_only a.spare.now in
    let l = c.loop-k in
    head_at a.z d a.c l.k (omega arith) (all-below l.k (page_spoiled a.z d a.c) l.invariant)
    (λ e. absurd (c.if-kind_at-ne-SPOILED_KIND.true (c.kind_at.ensures ∙ eqb-true _ 0 e)))

pub loop-k-preserved : goal.loop-k-preserved
unfolding page_spoiled spoiled tag_of page_index
loop-k-preserved c =
    let a = c.args in
    let l = c.loop-k in
    all_more l.k (page_spoiled a.z (spare_only a.spare.now) a.c)
    ∙ and-true l.invariant (eq-eqb _ 0 (sym c.kind_at.ensures ∙ c.if-kind_at-ne-SPOILED_KIND.false))

pub returns : goal.returns
unfolding page_spoiled
returns c =
    let a = c.args in
    let d = spare_only a.spare.now in
    let last : c.loop-k.k ≡ a.z.p - 1 = omega arith in
    head_at a.z d a.c (a.z.p - 1) (omega (arith, c.requires.chip.limits.p_low))
    (all-below (a.z.p - 1) (page_spoiled a.z d a.c) (rw last at c.loop-k.invariant)) (λ e. refl)

use Rattle.image.proofs.First.{kind-blank, used_end}
use Rattle.image.proofs.Place.{page_inside}
use Rattle.image.specs.Chip.{spare_only}
use Rattle.model.specs.Stores.{tag_of}
use Rattle.model.specs.Sizes.{page_index}
use Rattle.std.proofs.Common.{below_more}
use borrow.Author.Tests.{eq-eqb, ne_eqb}
use mathlib.Core.Path.{◌≡◌, sym, ◌∙◌}
use native.Mathlib.Omega.{arith}
use Rattle.image.proofs.pages_used.Goals as goal

pub overflow_mul-c : goal.overflow_mul-c
overflow_mul-c c = omega (arith, page_inside c.requires.chip c.requires.c_lt_c c.loop-k-test.true)

pub overflow_add-c : goal.overflow_add-c
overflow_add-c c = omega (arith, page_inside c.requires.chip c.requires.c_lt_c c.loop-k-test.true)

pub kind_at-requires : goal.kind_at-requires
kind_at-requires c = page_inside c.requires.chip c.requires.c_lt_c c.loop-k-test.true

pub returns-then-kind_at : goal.returns-then-kind_at
unfolding tag_of page_index
returns-then-kind_at c =
    let a = c.args in
    let d = spare_only a.spare.now in
    let l = c.loop-k in
    used_end a.z d a.c l.k c.requires.c_value (omega arith) l.invariant
    (λ h. kind-blank a.z d a.c l.k c.requires.c_value h ∙ eq-eqb _ 255 (sym c.kind_at.ensures ∙ c.if-kind_at.true))

pub loop-k-preserved : goal.loop-k-preserved
unfolding tag_of page_index
loop-k-preserved c =
    let a = c.args in
    let here = kind-blank a.z (spare_only a.spare.now) a.c c.loop-k.k c.requires.c_value c.loop-k-test.true
    ∙ ne_eqb _ 255 (λ e. c.if-kind_at.false (c.kind_at.ensures ∙ e)) in
    below_more _ _ c.loop-k.invariant here

pub returns : goal.returns
returns c =
    let a = c.args in
    let all : c.loop-k.k ≡ a.z.p = omega arith in
    used_end a.z (spare_only a.spare.now) a.c a.z.p c.requires.c_value (omega arith) (rw all at c.loop-k.invariant) (λ h. absurd (omega arith))

use native.Mathlib.Omega.{arith}
use mathlib.Core.Path.{ap, ◌∙◌}
use borrow.Author.Tests.{eqb-true}
use Rattle.model.specs.Spare.{spoiled, kind}
use Rattle.image.specs.Chip.{spare_only}
use Rattle.image.proofs.First.{first_inside, first_tag_lem, head_at}
use Rattle.image.proofs.head.Goals as goal

pub overflow_mul-c : goal.overflow_mul-c
overflow_mul-c c = let p = c.requires in omega (arith, first_inside p.chip p.c_lt_c)

pub kind_at-requires : goal.kind_at-requires
kind_at-requires c = let p = c.requires in first_inside p.chip p.c_lt_c

pub returns-then-kind_at-ne-SPOILED_KIND : goal.returns-then-kind_at-ne-SPOILED_KIND
unfolding spoiled
returns-then-kind_at-ne-SPOILED_KIND c = let o = c in let a = o.args in let d = spare_only a.spare.now in
    head_at a.z d a.c 0 (omega (arith, o.requires.chip.limits.p_low)) (λ i h. absurd (omega arith))
    (λ e. absurd (c.if-kind_at-ne-SPOILED_KIND.true (c.kind_at.ensures ∙ (ap kind (first_tag_lem a.z d a.c) ∙ eqb-true _ 0 e))))

pub returns : goal.returns
returns c = c.head_behind.ensures

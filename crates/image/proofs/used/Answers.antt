use Rattle.image.specs.Chip.{spare_only}
use Rattle.image.proofs.First.{first_inside, first_tag_lem, head-blank, used_first}
use Rattle.model.specs.Image.{used}
use Rattle.model.specs.Spare.{programmed, spoiled, kind}
use mathlib.Core.Path.{sym, ap, ◌∙◌}
use native.Mathlib.Omega.{arith}
use Rattle.image.proofs.used.Goals as goal

pub overflow_mul-c : goal.overflow_mul-c
overflow_mul-c c = let p = c.requires in omega (arith, first_inside p.chip p.c_lt_c)

pub kind_at-first-requires : goal.kind_at-first-requires
kind_at-first-requires c = let p = c.requires in first_inside p.chip p.c_lt_c

pub returns-then-first-ne-SPOILED_KIND : goal.returns-then-first-ne-SPOILED_KIND
returns-then-first-ne-SPOILED_KIND c = let a = c.args in let d = spare_only a.spare.now in
    let k = c.kind_at-first.ensures ∙ ap kind (first_tag_lem a.z d a.c) in
    rw k (sym (used_first a.z d a.c (head-blank a.z d a.c c.requires.chip.limits.p_low c.requires.c_value) (λ e. c.if-first-ne-SPOILED_KIND.true (k ∙ e))))

pub returns : goal.returns
unfolding used programmed spoiled
returns c = let a = c.args in
    rw (c.programmed_kind.ensures, c.head_kind.ensures, head-blank a.z (spare_only a.spare.now) a.c c.requires.chip.limits.p_low c.requires.c_value)

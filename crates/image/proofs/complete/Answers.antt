use Rattle.image.specs.Chip.{spare_only}
use Rattle.image.proofs.Copies.{complete_first}
use Rattle.image.proofs.First.{first_inside, first_tag_lem, kind-blank}
use Rattle.model.specs.Spare.{programmed, spoiled, kind}
use mathlib.Core.Path.{ap, ◌∙◌}
use native.Mathlib.Omega.{arith}
use Rattle.image.proofs.complete.Goals as goal

pub overflow_mul-c : goal.overflow_mul-c
overflow_mul-c c = let p = c.requires in omega (arith, first_inside p.chip p.c_lt_c)

pub kind_at-kind-requires : goal.kind_at-kind-requires
kind_at-kind-requires c = let p = c.requires in first_inside p.chip p.c_lt_c

pub returns : goal.returns
unfolding programmed spoiled
returns c = let a = c.args in let d = spare_only a.spare.now in
    rw (c.programmed_kind.ensures, c.kind_at-kind.ensures ∙ ap kind (first_tag_lem a.z d a.c), c.ends_log.ensures, complete_first a.z d a.c c.requires.chip.limits c.requires.c_value, kind-blank a.z d a.c 0 c.requires.c_value c.requires.chip.limits.p_low)

use Rattle.model.specs.Image.{page_blank}
use Rattle.image.specs.Chip.{spare_only}
use Rattle.image.proofs.First.{first_inside, first_tag_lem, kind-blank}
use mathlib.Core.Path.{sym}
use native.Mathlib.Omega.{arith}
use Rattle.image.proofs.is_free.Goals as goal

pub overflow_mul-c : goal.overflow_mul-c
overflow_mul-c c = let p = c.requires in omega (arith, first_inside p.chip p.c_lt_c)

pub kind_at-requires : goal.kind_at-requires
kind_at-requires c = let p = c.requires in first_inside p.chip p.c_lt_c

pub returns : goal.returns
unfolding page_blank
returns c = let o = c in let a = o.args in let d = spare_only a.spare.now in
    rw (c.kind_at.ensures, first_tag_lem a.z d a.c) (sym (kind-blank a.z d a.c 0 o.requires.c_value o.requires.chip.limits.p_low))

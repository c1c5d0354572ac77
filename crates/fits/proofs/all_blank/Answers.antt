use Rattle.fits.proofs.Blank.{first_kind}
use Rattle.model.proofs.Limits.{on_chip}
use Rattle.image.specs.Chip.{spare_only}
use Rattle.image.proofs.First.{first_inside, first_tag_lem, formed_bucket}
use native.Mathlib.Omega.{arith}
use Rattle.fits.proofs.all_blank.Goals as goal

pub overflow_mul-c : goal.overflow_mul-c
overflow_mul-c c = let o = c in omega (arith, first_inside o.requires.chip (on_chip o.args.z o.args.c o.requires.c_bound))

pub kind_at-requires : goal.kind_at-requires
kind_at-requires c = let o = c in first_inside o.requires.chip (on_chip o.args.z o.args.c o.requires.c_bound)

pub returns : goal.returns
returns c = let o = c in let a = o.args in let d = spare_only a.spare.now in
    rw (c.kind_at.ensures, first_tag_lem a.z d a.c) (first_kind a.z d a.c o.requires.chip.limits.p_low (formed_bucket a.z d o.requires.spare_value a.c o.requires.c_bound))

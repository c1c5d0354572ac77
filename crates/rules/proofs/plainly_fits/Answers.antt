use native.Mathlib.Omega.{arith}
use mathlib.Core.Path.{sym, ◌∙◌}
use Rattle.rules.proofs.Buckets.{fitting_fits}
use Rattle.image.proofs.Place.{bucket_inside}
use Rattle.rules.proofs.plainly_fits.Goals as goal

pub overflow_mul-c : goal.overflow_mul-c
overflow_mul-c c = let s = c in omega (arith, bucket_inside s.requires.chip s.args.c s.requires.c_lt_c)

pub overflow_add-c : goal.overflow_add-c
overflow_add-c c = let s = c in omega (arith, bucket_inside s.requires.chip s.args.c s.requires.c_lt_c, c.fitting-n.ensures.0)

pub are_blank-requires : goal.are_blank-requires
are_blank-requires c = let s = c in omega (arith, bucket_inside s.requires.chip s.args.c s.requires.c_lt_c, c.fitting-n.ensures.0)

pub returns : goal.returns
returns c = let a = c.args in let f = c.fitting-n in
    λ h. fitting_fits a.z a.spare.now a.c f.result f.ensures (sym c.are_blank.ensures ∙ h)

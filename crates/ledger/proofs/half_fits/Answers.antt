use Rattle.ledger.proofs.Pages.{half_split}
use Rattle.image.proofs.Place.{bucket_inside}
use native.Mathlib.Omega.{arith}
use mathlib.Core.Path.{sym, ◌∙◌}
use Rattle.ledger.proofs.half_fits.Goals as goal

pub overflow_mul-l : goal.overflow_mul-l
overflow_mul-l c = let o = c in omega (arith, bucket_inside o.requires.chip o.args.l o.requires.l_lt_c)

pub overflow_add-l : goal.overflow_add-l
overflow_add-l c = let o = c in omega (arith, bucket_inside o.requires.chip o.args.l o.requires.l_lt_c, c.entered-n.ensures.0)

pub are_blank-requires : goal.are_blank-requires
are_blank-requires c = let o = c in omega (arith, bucket_inside o.requires.chip o.args.l o.requires.l_lt_c, c.entered-n.ensures.0)

pub returns : goal.returns
returns c = let a = c.args in let e = c.entered-n in c.are_blank.ensures ∙ sym (half_split a.z a.spare.now a.l e.result e.ensures)

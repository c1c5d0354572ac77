use native.Mathlib.Omega.{arith}
use mathlib.Core.Path.{◌≡◌, sym, ap, ◌∙◌}
use Rattle.model.specs.Image.{fields_fit}
use Rattle.model.specs.Stores.{tag_of}
use Rattle.model.specs.Spare.{zeros, ordinal}
use Rattle.spare.specs.Fields.{fields}
use Rattle.spare.specs.declared.Fields.{Fields}
use Rattle.rules.proofs.Page.{first_page}
use Rattle.image.specs.Chip.{spare_only}
use Rattle.image.proofs.First.{first_inside, first_tag_lem}
use Rattle.rules.proofs.first_fits_at.Goals as goal

pub overflow_mul-page : goal.overflow_mul-page
overflow_mul-page c = let o = c in omega (arith, first_inside o.requires.chip o.requires.c_lt_c)

pub fields_at-f-requires : goal.fields_at-f-requires
fields_at-f-requires c = let o = c in first_inside o.requires.chip o.requires.c_lt_c

pub zeroed-zeroed-requires : goal.zeroed-zeroed-requires
zeroed-zeroed-requires c = let o = c in first_inside o.requires.chip o.requires.c_lt_c

pub returns : goal.returns
unfolding fields ordinal
returns c = let a = c.args in let d = spare_only a.spare.now in let tag = tag_of a.z d a.c 0 in let at = first_tag_lem a.z d a.c in
    let here = c.fields_at-f.ensures ∙ ap fields at in
    let fits : c.fields_fit.result ≡ fields_fit a.z tag = c.fields_fit.ensures tag (sym here) (sym (c.zeroed-zeroed.ensures ∙ ap zeros at)) in
    let first : c.fields_at-f.result.ordinal ≡ ordinal tag = ap (λ (f : Fields). f.ordinal) here in
    rw (fits, first) (sym (first_page a.z d a.c))

use Rattle.holes.proofs.First.{some_first}
use Rattle.image.proofs.Place.{page_inside}
use Rattle.image.specs.Chip.{spare_only}
use Rattle.model.specs.Ledger.{first_tag, loose_fits}
use Rattle.model.specs.Image.{shares, fields_fit, page_programmed}
use Rattle.model.specs.Spare.{programmed}
use Rattle.model.specs.Stores.{tag_of}
use Rattle.model.specs.Sizes.{page_index}
use Rattle.lists.proofs.Tests.{or_left}
use native.Mathlib.Omega.{arith}
use mathlib.Core.Bool.{true, not}
use mathlib.Core.Path.{◌≡◌, sym, ap, ◌∙◌}
use Rattle.holes.proofs.loose_page.Goals as goal

pub returns-then-not-page_programmed : goal.returns-then-not-page_programmed
unfolding loose_fits page_programmed
returns-then-not-page_programmed c = sym (or_left _ _ (ap not (sym c.page_programmed.ensures ∙ c.if-not-page_programmed.true)))

pub overflow_mul-page : goal.overflow_mul-page
overflow_mul-page c = omega (arith, page_inside c.requires.chip c.requires.c_lt_c c.requires.k_lt_p)

pub overflow_add-page : goal.overflow_add-page
overflow_add-page c = omega (arith, page_inside c.requires.chip c.requires.c_lt_c c.requires.k_lt_p)

pub fields_at-f-requires : goal.fields_at-f-requires
fields_at-f-requires c = page_inside c.requires.chip c.requires.c_lt_c c.requires.k_lt_p

pub overflow_mul-c : goal.overflow_mul-c
overflow_mul-c c = omega (arith, page_inside c.requires.chip c.requires.c_lt_c c.requires.speaks.inside)

pub overflow_add-c : goal.overflow_add-c
overflow_add-c c = omega (arith, page_inside c.requires.chip c.requires.c_lt_c c.requires.speaks.inside)

pub fields_at-head-requires : goal.fields_at-head-requires
fields_at-head-requires c = page_inside c.requires.chip c.requires.c_lt_c c.requires.speaks.inside

pub zeroed-zeroed-requires : goal.zeroed-zeroed-requires
zeroed-zeroed-requires c = page_inside c.requires.chip c.requires.c_lt_c c.requires.k_lt_p

pub fields_fit-requires : goal.fields_fit-requires
fields_fit-requires c = c.requires.chip.limits

pub returns : goal.returns
unfolding loose_fits page_programmed tag_of page_index
returns c = let a = c.args in let d = spare_only a.spare.now in
    let tag = tag_of a.z d a.c a.k in let first = tag_of a.z d a.c a.first in let speaks = c.requires.speaks in
    let p : programmed tag ≡ true = sym c.page_programmed.ensures ∙ c.if-not-page_programmed.false in
    let e : first_tag a.z d a.c ≡ first = speaks.is (sym speaks.tells ∙ some_first a.z d a.c a.k c.requires.k_lt_p p) in
    let fits : c.fields_fit.result ≡ fields_fit a.z tag = c.fields_fit.ensures tag (sym c.fields_at-f.ensures) (sym c.zeroed-zeroed.ensures) in
    let shared : c.shares.result ≡ shares first tag = c.shares.ensures first tag (sym c.fields_at-head.ensures) (sym c.fields_at-f.ensures) in
    rw (p, fits, shared, e)

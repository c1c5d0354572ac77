use native.Mathlib.Omega.{arith}
use mathlib.Core.Path.{◌≡◌, sym, ap, ◌∙◌}
use Rattle.spare.specs.Fields.{fields}
use Rattle.rules.specs.Pages.{ruled}
use Rattle.lists.proofs.Tests.{every_three}
use Rattle.model.specs.Image.{fields_fit, head_tag, shares}
use Rattle.model.specs.Stores.{tag_of}
use Rattle.model.specs.Sizes.{page_index}
use Rattle.image.proofs.Place.{page_inside}
use Rattle.image.specs.Chip.{spare_only}
use Rattle.rules.proofs.rules_hold.Goals as goal

pub overflow_mul-c : goal.overflow_mul-c
overflow_mul-c c = let p = c.requires in omega (arith, page_inside p.chip p.c_lt_c.0 p.c_lt_c.1)

pub overflow_add-c : goal.overflow_add-c
overflow_add-c c = let p = c.requires in omega (arith, page_inside p.chip p.c_lt_c.0 p.c_lt_c.1)

pub zeroed-zeroed-requires : goal.zeroed-zeroed-requires
zeroed-zeroed-requires c = let p = c.requires in page_inside p.chip p.c_lt_c.0 p.c_lt_c.1

pub overflow_mul-c-2 : goal.overflow_mul-c-2
overflow_mul-c-2 c = let p = c.requires in omega (arith, page_inside p.chip p.c_lt_c.0 p.head_at.inside)

pub overflow_add-c-2 : goal.overflow_add-c-2
overflow_add-c-2 c = let p = c.requires in omega (arith, page_inside p.chip p.c_lt_c.0 p.head_at.inside)

pub fields_at-first-requires : goal.fields_at-first-requires
fields_at-first-requires c = let p = c.requires in page_inside p.chip p.c_lt_c.0 p.head_at.inside

pub returns : goal.returns
unfolding ruled tag_of page_index
returns c = let s = c in let a = s.args in let d = spare_only a.spare.now in let tag = tag_of a.z d a.c a.k in let said = s.requires.k_value in
    let fit : c.fields_fit.result ≡ fields_fit a.z tag = c.fields_fit.ensures tag said (sym c.zeroed-zeroed.ensures) in
    let shared : c.shares.result ≡ shares (head_tag a.z d a.c) tag = c.shares.ensures (head_tag a.z d a.c) tag (ap fields s.requires.head_at.is ∙ sym c.fields_at-first.ensures) said in
    rw (fit, shared, c.in_order.ensures) (every_three _ _ _)

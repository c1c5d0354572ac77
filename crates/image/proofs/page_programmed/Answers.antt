use native.Mathlib.Omega.{arith}
use mathlib.Core.Path.{sym, ◌∙◌}
use Rattle.model.specs.Stores.{tag_of}
use Rattle.model.specs.Sizes.{page_index}
use Rattle.model.specs.Image.{page_programmed}
use Rattle.image.proofs.First.{no_kind_real, kind_else_real}
use Rattle.image.proofs.Place.{page_inside}
use Rattle.image.proofs.page_programmed.Goals as goal

pub overflow_mul-page : goal.overflow_mul-page
overflow_mul-page c = let p = c.requires in omega (arith, page_inside p.chip p.c_lt_c p.k_lt_p)

pub overflow_add-page : goal.overflow_add-page
overflow_add-page c = let p = c.requires in omega (arith, page_inside p.chip p.c_lt_c p.k_lt_p)

pub kind_at-kind-requires : goal.kind_at-kind-requires
kind_at-kind-requires c = let p = c.requires in page_inside p.chip p.c_lt_c p.k_lt_p

pub blank_at-requires : goal.blank_at-requires
blank_at-requires c = let p = c.requires in page_inside p.chip p.c_lt_c p.k_lt_p

pub returns-then-kind : goal.returns-then-kind
unfolding page_programmed tag_of page_index
returns-then-kind c = rw c.blank_at.ensures (no_kind_real _ (sym c.kind_at-kind.ensures ∙ c.if-kind.true))

pub returns : goal.returns
unfolding page_programmed tag_of page_index
returns c = rw c.kind_at-kind.ensures (kind_else_real _ (λ q. c.if-kind.false (c.kind_at-kind.ensures ∙ q)))

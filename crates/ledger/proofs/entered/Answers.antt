use Rattle.ledger.specs.Halves.{taken}
use Rattle.image.proofs.Place.{bucket_inside, page_inside}
use Rattle.image.specs.Chip.{spare_only}
use Rattle.model.specs.Stores.{tag_of}
use Rattle.model.specs.Sizes.{page_index}
use Rattle.lists.proofs.Turns.{all_more}
use Rattle.lists.proofs.Tests.{and-true}
use Rattle.lists.specs.Lists.{all_below}
use native.Mathlib.Omega.{arith}
use mathlib.Core.Path.{◌≡◌, refl, sym, ◌∙◌}
use Rattle.ledger.proofs.entered.Goals as goal

pub overflow_mul-start : goal.overflow_mul-start
overflow_mul-start c = omega (arith, bucket_inside c.requires.chip c.args.l c.requires.l_lt_c)

pub loop-k-init : goal.loop-k-init
unfolding all_below
loop-k-init c = refl

pub overflow_add-start : goal.overflow_add-start
overflow_add-start c = omega (arith, page_inside {k = c.loop-k.k} c.requires.chip c.requires.l_lt_c (omega arith))

pub is_taken-requires : goal.is_taken-requires
is_taken-requires c = page_inside c.requires.chip c.requires.l_lt_c (omega arith)

pub returns-then-not-is_taken : goal.returns-then-not-is_taken
unfolding taken tag_of page_index
returns-then-not-is_taken c = (omega arith, c.loop-k.invariant, λ h. sym c.is_taken.ensures ∙ c.if-not-is_taken.true)

pub loop-k-preserved : goal.loop-k-preserved
unfolding taken tag_of page_index
loop-k-preserved c = let a = c.args in
    all_more c.loop-k.k (taken a.z (spare_only a.spare.now) a.l) ∙ and-true c.loop-k.invariant (sym c.is_taken.ensures ∙ c.if-not-is_taken.false)

pub returns : goal.returns
returns c = let e : c.loop-k.k ≡ c.args.z.p = omega arith in (omega arith, rw e at c.loop-k.invariant, λ h. absurd (omega arith))

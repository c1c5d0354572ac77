use Prim.Native.Nat.{◌+◌, ◌*◌}
use Rattle.ledger.proofs.Pages.{ledger_inside, entry_inside, fits_look}
use Rattle.model.specs.Ledger.{ledger_tag, entry_fits}
use Rattle.model.specs.Spare.{blank}
use Rattle.model.specs.Stores.{tag_of}
use Rattle.model.specs.Sizes.{body, page_index}
use Rattle.lists.proofs.Tests.{or_left}
use Rattle.lists.specs.Lists.{part}
use native.Mathlib.Omega.{arith}
use mathlib.Core.Bool.{false}
use mathlib.Core.Path.{◌≡◌, sym, ◌∙◌}
use Rattle.ledger.proofs.entry_fits.Goals as goal

pub overflow_mul-page : goal.overflow_mul-page
overflow_mul-page c = rw c.body.ensures (omega (arith, ledger_inside c.requires.chip))

pub overflow_add-page : goal.overflow_add-page
overflow_add-page c = rw c.body.ensures (omega (arith, entry_inside c.requires.chip c.requires.i_bound))

pub blank_at-requires : goal.blank_at-requires
blank_at-requires c = rw c.body.ensures (entry_inside c.requires.chip c.requires.i_bound)

pub returns-then-blank_at : goal.returns-then-blank_at
unfolding entry_fits ledger_tag tag_of page_index
returns-then-blank_at c = sym (fits_look _ _ ∙ or_left _ _ (rw c.body.ensures at (sym c.blank_at.ensures ∙ c.if-blank_at.true)))

pub is_taken-requires : goal.is_taken-requires
is_taken-requires c = rw c.body.ensures (entry_inside c.requires.chip c.requires.i_bound)

pub returns : goal.returns
unfolding entry_fits ledger_tag tag_of page_index
returns c = let a = c.args in let e : blank (part a.spare.now ((body a.z * a.z.p + a.i) * 16) 16) ≡ false = rw c.body.ensures at (sym c.blank_at.ensures ∙ c.if-blank_at.false) in rw (fits_look a.z (part a.spare.now ((body a.z * a.z.p + a.i) * 16) 16), e) (rw c.body.ensures at c.is_taken.ensures)

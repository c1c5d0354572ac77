use Rattle.image.specs.Chip.{spare_only}
use Rattle.model.specs.Ledger.{in_use}
use Rattle.model.specs.Image.{page_blank}
use Rattle.model.specs.Sizes.{body}
use Prim.Native.Nat.{◌+◌}
use mathlib.Core.Bool.{true, false}
use mathlib.Core.Path.{◌≡◌, sym, ◌∙◌}
use Rattle.noted.proofs.in_use.Goals as goal

pub returns-then-page_blank : goal.returns-then-page_blank
unfolding in_use page_blank
returns-then-page_blank c =
    let a = c.args in
    let t : page_blank a.z (spare_only a.spare.now) (body a.z + 1) 0 ≡ true = rw c.body-lower.ensures at (sym c.page_blank.ensures ∙ c.if-page_blank.true) in
    rw (t, c.body-lower.ensures)

pub returns-else-page_blank : goal.returns-else-page_blank
unfolding in_use page_blank
returns-else-page_blank c =
    let a = c.args in
    let t : page_blank a.z (spare_only a.spare.now) (body a.z + 1) 0 ≡ false = rw c.body-lower.ensures at (sym c.page_blank.ensures ∙ c.if-page_blank.false) in
    rw (t, c.body-lower.ensures)

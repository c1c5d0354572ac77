use Rattle.rules.specs.Pages.{kind_fits}
use Rattle.rules.proofs.Page.{write-fits}
use Rattle.spare.specs.Fields.{fields}
use Rattle.geometry.proofs.Passed.{products}
use Rattle.model.specs.Image.{spans_bucket}
use Rattle.model.specs.Spare.{write_kind, kind, offset, extent}
use Rattle.model.specs.Sizes.{bucket_size}
use Rattle.lists.specs.Lists.{within}
use borrow.Author.Tests.{ne_eqb}
use lib.Dec.{eqb}
use mathlib.Core.Bool.{false}
use mathlib.Core.Path.{◌≡◌, sym, ap, ◌∙◌}
use native.Mathlib.Omega.{arith}
use Rattle.rules.proofs.kind_fits.Goals as goal

pub returns-then-f-eq-WRITE_KIND : goal.returns-then-f-eq-WRITE_KIND
unfolding fields kind
returns-then-f-eq-WRITE_KIND c = λ tag e. sym (write-fits c.args.z tag (ap (λ g. g.kind) e ∙ c.if-f-eq-WRITE_KIND.true))

pub overflow_mul-spans : goal.overflow_mul-spans
overflow_mul-spans c = omega (arith, products c.requires)

pub returns : goal.returns
unfolding kind_fits spans_bucket within bucket_size fields kind offset extent
returns c = λ tag e.
    let h : eqb (kind tag) write_kind ≡ false = ap (λ g. eqb g.kind write_kind) e ∙ ne_eqb _ _ c.if-f-eq-WRITE_KIND.false in
    rw (h, ← e)

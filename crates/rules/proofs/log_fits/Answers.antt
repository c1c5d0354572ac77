use Rattle.rules.specs.Pages.{log_fits}
use Rattle.spare.specs.Fields.{fields}
use Rattle.geometry.proofs.Passed.{products}
use Rattle.model.specs.Spare.{pages, offset, extent}
use Rattle.model.specs.Sizes.{bucket_size, pages_for}
use Prim.Native.Nat.{◌+◌}
use lib.Dec.{eqb}
use mathlib.Core.Bool.{true, false}
use mathlib.Core.Path.{◌≡◌, sym, ap, ◌∙◌}
use native.Mathlib.Omega.{arith}
use Rattle.rules.proofs.log_fits.Goals as goal

pub returns-then-not-takes : goal.returns-then-not-takes
unfolding log_fits fields pages extent
returns-then-not-takes c = let z = c.args.z in λ tag e.
    let h : eqb (pages tag) (pages_for z (extent tag)) ≡ false = ap (λ g. eqb g.pages (pages_for z (g.last + 1))) e ∙ (sym c.takes.ensures ∙ c.if-not-takes.true) in
    rw h

pub overflow_mul-result : goal.overflow_mul-result
overflow_mul-result c = omega (arith, products c.requires)

pub returns : goal.returns
unfolding log_fits bucket_size fields pages offset extent
returns c = let z = c.args.z in λ tag e.
    let h : eqb (pages tag) (pages_for z (extent tag)) ≡ true = ap (λ g. eqb g.pages (pages_for z (g.last + 1))) e ∙ (sym c.takes.ensures ∙ c.if-not-takes.false) in
    rw (h, ← e)

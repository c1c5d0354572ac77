-- `drive::check_format` meets its contract.
use mathlib.Core.Bool.{true, false}
use mathlib.Core.Path.{◌≡◌, sym, ◌∙◌}
use Rattle.model.proofs.Limits.{limits_of}
use Rattle.model.specs.Sizes.{limits}
use Rattle.drive.specs.Asking.{format_unmade}
use Rattle.drive.proofs.check_format.Goals as goal

pub returns-then-not-limits : goal.returns-then-not-limits
unfolding format_unmade
returns-then-not-limits c = let l : limits c.args.z ≡ false = sym c.limits.ensures ∙ c.if-not-limits.true in rw l

pub too_large-requires : goal.too_large-requires
too_large-requires c = limits_of c.args.z (sym c.limits.ensures ∙ c.if-not-limits.false)

pub returns-then-too_large : goal.returns-then-too_large
unfolding format_unmade
returns-then-too_large c = let l : limits c.args.z ≡ true = sym c.limits.ensures ∙ c.if-not-limits.false in
    rw (l, sym c.too_large.ensures ∙ c.if-too_large.true)

pub returns : goal.returns
unfolding format_unmade
returns c = let l : limits c.args.z ≡ true = sym c.limits.ensures ∙ c.if-not-limits.false in
    rw (l, sym c.too_large.ensures ∙ c.if-too_large.false)

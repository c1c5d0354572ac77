use mathlib.Core.Path.{sym, ◌∙◌}
use Rattle.model.specs.Tests.{first_failed}
use Rattle.model.specs.Mail.{chip_tests}
use Rattle.model.proofs.Limits.{limits_of}
use Rattle.geometry.proofs.check_chip.Goals as goal

pub returns-then-not-limits : goal.returns-then-not-limits
unfolding first_failed chip_tests
returns-then-not-limits c = rw (sym c.limits.ensures ∙ c.if-not-limits.true)

pub chip_lengths-requires : goal.chip_lengths-requires
chip_lengths-requires c = limits_of _ (sym c.limits.ensures ∙ c.if-not-limits.false)

pub returns-then-not-chip_lengths : goal.returns-then-not-chip_lengths
unfolding first_failed chip_tests
returns-then-not-chip_lengths c = rw (sym c.limits.ensures ∙ c.if-not-limits.false, sym c.chip_lengths.ensures ∙ c.if-not-chip_lengths.true)

pub returns : goal.returns
unfolding first_failed chip_tests
returns c = rw (sym c.limits.ensures ∙ c.if-not-limits.false, sym c.chip_lengths.ensures ∙ c.if-not-chip_lengths.false)

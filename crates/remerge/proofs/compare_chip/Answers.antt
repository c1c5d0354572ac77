use Rattle.model.proofs.Limits.{limits_of}
use Rattle.std.proofs.Common.{sym, ◌∙◌}
use Rattle.remerge.proofs.compare_chip.Goals as goal

pub compare_sizes-tally-requires : goal.compare_sizes-tally-requires
compare_sizes-tally-requires c = limits_of c.args.z (sym c.limits.ensures ∙ c.if-not-limits.false)

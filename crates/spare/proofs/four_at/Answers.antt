use Rattle.std.proofs.Common.{arith, ◌∙◌}
use Rattle.model.specs.Spare.{two, four}
use Rattle.spare.proofs.four_at.Goals as goal

pub returns : goal.returns
unfolding two four
returns c = c.from_be_bytes.ensures ∙ omega arith

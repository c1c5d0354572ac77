use mathlib.Core.Bool.{and_assoc, and-true}
use Rattle.lists.specs.Lists.{every}
use Rattle.model.specs.Spare.{zeros}
use Rattle.spare.proofs.zero_bytes.Goals as goal

pub returns : goal.returns
unfolding zeros every
returns c = simp (and_assoc, and-true)

use Rattle.std.proofs.Common.{arith}
use Rattle.model.specs.Sizes.{body}
use Rattle.overlay.proofs.Found.{listed}
use Rattle.remerge.proofs.old.lay_over.Goals as goal

pub merge_range-requires-clause-c_bound : goal.merge_range-requires-clause-c_bound
merge_range-requires-clause-c_bound c =
    rw c.from.ensures (listed (body c.args.z) c.args.list.now c.requires.list_value c.loop-c.c-index (omega arith))

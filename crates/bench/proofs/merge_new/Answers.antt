use Rattle.std.proofs.Common.{arith}
use Rattle.model.specs.Sizes.{body}
use Rattle.steps.proofs.Inside.{one_inside}
use Rattle.bench.proofs.merge_new.Goals as goal

pub lay_out-requires-clause-list_value : goal.lay_out-requires-clause-list_value
unfolding body
lay_out-requires-clause-list_value c = one_inside (body c.args.z) 0 (omega (arith, c.requires.readable.limits.c_low))

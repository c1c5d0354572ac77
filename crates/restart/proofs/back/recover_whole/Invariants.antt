use Rattle.std.proofs.Common.{◌≤◌}
use Rattle.restart.proofs.back.recover_whole.Given as goal

abbrev pub invariant-loop-allowance : goal.invariant-loop-allowance
invariant-loop-allowance l = l.all.torn ≤ l.allowance

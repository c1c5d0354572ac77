-- What was written is a part of the text.
use Rattle.std.proofs.Common.{length, ◌-◌, ◌≤◌}
use Rattle.streams.proofs.write_out.Given as goal

abbrev pub invariant-loop-written : goal.invariant-loop-written
invariant-loop-written l = l.written ≤ length l.text

abbrev pub decreases-loop-written : goal.decreases-loop-written
decreases-loop-written l = length l.text - l.written

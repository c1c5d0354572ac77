-- The last answer is of the text.
use Rattle.std.specs.Io.{WritesAtMost}
use Rattle.streams.proofs.write_some.Given as goal

abbrev pub invariant-loop-put : goal.invariant-loop-put
invariant-loop-put l = WritesAtMost l.put l.text

abbrev pub decreases-loop-put : goal.decreases-loop-put
decreases-loop-put l = l.tries

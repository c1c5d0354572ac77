-- The last answer is of the piece as it now is.
use Rattle.std.specs.Io.{ReadsAtMost}
use Rattle.streams.proofs.read_piece.Given as goal

abbrev pub invariant-loop-got : goal.invariant-loop-got
invariant-loop-got l = ReadsAtMost l.got l.piece

abbrev pub decreases-loop-got : goal.decreases-loop-got
decreases-loop-got l = l.tries

use Rattle.lines.specs.Lines.{OneLine}
use Rattle.lines.proofs.line_end.Given as goal

abbrev pub invariant-loop-end : goal.invariant-loop-end
invariant-loop-end l = OneLine l.piece l.from l.end

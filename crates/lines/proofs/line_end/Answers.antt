-- `lines::line_end` meets its contract.
use mathlib.Core.Path.{◌≡◌}
use lib.ListN.{length}
use native.Mathlib.Omega.{arith}
use Rattle.lines.proofs.Pieces.{line_begun, line_more}
use Rattle.lines.proofs.line_end.Goals as goal

pub loop-end-init : goal.loop-end-init
loop-end-init c = line_begun c.args.piece.now c.args.from

pub returns-then-piece-end-eq10 : goal.returns-then-piece-end-eq10
returns-then-piece-end-eq10 c = record { lower_bound = (omega arith, omega arith, λ _. c.if-piece-end-eq10.true); one_line = c.loop-end.invariant }

pub loop-end-preserved : goal.loop-end-preserved
loop-end-preserved c = line_more c.args.piece.now c.args.from c.loop-end.end (omega arith) (omega arith) c.if-piece-end-eq10.false c.loop-end.invariant

pub returns : goal.returns
returns c = let e : c.loop-end.end ≡ length c.args.piece.now = omega arith in
    record { lower_bound = (c.requires, omega arith, λ h. absurd (omega arith)); one_line = rw e at c.loop-end.invariant }

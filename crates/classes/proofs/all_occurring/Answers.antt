use Rattle.classes.proofs.Turns.{made_more, made_end}
use Rattle.classes.specs.Columns.{occurring}
use native.Mathlib.Omega.{arith}
use Rattle.classes.proofs.all_occurring.Goals as goal

pub loop-i-preserved : goal.loop-i-preserved
loop-i-preserved c = let x = c.args in
    made_more (occurring x.n x.other.now) x.column.now x.out.now c.requires.out_len c.loop-i.i c.loop-i.invariant (omega arith) c.occurring.ensures

pub returns : goal.returns
returns c = let x = c.args in
    made_end (occurring x.n x.other.now) x.column.now x.out.now c.requires.out_len c.loop-i.i c.loop-i.invariant (omega arith)

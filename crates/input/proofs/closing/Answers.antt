-- `input::closing` meets its contract.
use lib.ListN.{length-set}
use native.Mathlib.Omega.{arith}
use mathlib.Core.Path.{refl, ◌∙◌}
use Rattle.lists.proofs.Arrays.{written}
use Rattle.input.specs.Ahead.{closer}
use Rattle.input.proofs.End.{closer_of}
use Rattle.input.proofs.closing.Goals as goal

pub returns-then-held-eq0 : goal.returns-then-held-eq0
unfolding closer
returns-then-held-eq0 c = (rw c.if-held-eq0.true refl, omega arith)

pub returns : goal.returns
returns c = (written 0 c.args.piece.now 10 (omega (arith, c.requires)) ∙ closer_of c.args.held c.if-held-eq0.false, rw length-set c.requires)

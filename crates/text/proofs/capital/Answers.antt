-- `text::capital` meets its contract.
use native.Mathlib.Omega.{arith}
use borrow.Author.Tests.{lt-ltb, le-ltb}
use Rattle.model.specs.Driving.{digit}
use Rattle.text.proofs.capital.Goals as goal

pub returns-then-v-lt10 : goal.returns-then-v-lt10
unfolding digit
returns-then-v-lt10 c = rw (lt-ltb c.args.v 10 c.if-v-lt10.true) (omega arith)

pub returns-else-v-lt10 : goal.returns-else-v-lt10
unfolding digit
returns-else-v-lt10 c = rw (le-ltb c.args.v 10 c.if-v-lt10.false) (omega arith)

use Rattle.classes.specs.Columns.{nowhere}
use borrow.Author.Tests.{eq-eqb, ne_eqb}
use Rattle.classes.proofs.old_back.Goals as goal

pub returns-then-copy-ne-NOWHERE : goal.returns-then-copy-ne-NOWHERE
returns-then-copy-ne-NOWHERE c = rw (ne_eqb c.args.copy nowhere c.if-copy-ne-NOWHERE.true)

pub returns : goal.returns
returns c = rw (eq-eqb c.args.copy nowhere c.if-copy-ne-NOWHERE.false) c.named.ensures

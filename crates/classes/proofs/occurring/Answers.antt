use mathlib.Core.Path.{sym, ◌∙◌}
use Rattle.classes.proofs.Turns.{occurring-nowhere, occurring_so, occurring-not}
use Rattle.classes.proofs.occurring.Goals as goal

pub returns-then-b-eq-NOWHERE : goal.returns-then-b-eq-NOWHERE
returns-then-b-eq-NOWHERE c = occurring-nowhere c.args.n c.args.column.now c.args.b c.if-b-eq-NOWHERE.true

pub returns-then-occurrences-n : goal.returns-then-occurrences-n
returns-then-occurrences-n c = let x = c.args in occurring_so x.n x.column.now x.b (sym c.occurrences.ensures ∙ c.if-occurrences-n.true)

pub returns-else-occurrences-n : goal.returns-else-occurrences-n
returns-else-occurrences-n c = let x = c.args in occurring-not x.n x.column.now x.b (λ e. c.if-occurrences-n.false (c.occurrences.ensures ∙ e))

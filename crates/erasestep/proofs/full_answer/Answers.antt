use Rattle.fifo.specs.View.{list_of}
use Rattle.model.specs.Calls.{done_answer}
use Rattle.lists.proofs.Arrays.{empty-length}
use borrow.Author.Tests.{eq-eqb, ne_eqb}
use mathlib.Core.Path.{sym, ◌∙◌}
use Rattle.erasestep.proofs.full_answer.Goals as goal

pub returns-then-n-eq0 : goal.returns-then-n-eq0
unfolding done_answer
returns-then-n-eq0 c = let gc = list_of c.args.s.gc in
    rw (empty-length gc, eq-eqb _ _ (sym c.used-n.ensures.0 ∙ c.if-n-eq0.true))

pub returns-else-n-eq0 : goal.returns-else-n-eq0
unfolding done_answer
returns-else-n-eq0 c = let gc = list_of c.args.s.gc in
    rw (empty-length gc, ne_eqb _ _ (λ z. c.if-n-eq0.false (c.used-n.ensures.0 ∙ z)))

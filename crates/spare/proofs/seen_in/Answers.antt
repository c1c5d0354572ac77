use Rattle.spare.specs.Fields.{seen}
use Rattle.model.specs.Spare.{spoiled, kind}
use borrow.Author.Tests.{eq-eqb, ne_eqb}
use mathlib.Core.Path.{sym, ◌∙◌}
use Rattle.spare.proofs.seen_in.Goals as goal

pub returns-then-is_blank : goal.returns-then-is_blank
unfolding seen
returns-then-is_blank c = rw (sym c.is_blank.ensures ∙ c.if-is_blank.true)

pub returns-then-bytes-eq-SPOILED_KIND : goal.returns-then-bytes-eq-SPOILED_KIND
unfolding seen spoiled kind
returns-then-bytes-eq-SPOILED_KIND c = rw (sym c.is_blank.ensures ∙ c.if-is_blank.false, eq-eqb _ _ c.if-bytes-eq-SPOILED_KIND.true)

pub returns-else-bytes-eq-SPOILED_KIND : goal.returns-else-bytes-eq-SPOILED_KIND
unfolding seen spoiled kind
returns-else-bytes-eq-SPOILED_KIND c = rw (sym c.is_blank.ensures ∙ c.if-is_blank.false, ne_eqb _ _ c.if-bytes-eq-SPOILED_KIND.false, c.decode.ensures)

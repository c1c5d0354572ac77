use mathlib.Core.Bool.{and-true}
use mathlib.Core.Path.{sym, ◌∙◌}
use native.Mathlib.Omega.{arith}
use Rattle.lists.specs.Lists.{every}
use Rattle.lists.proofs.Tests.{within_high}
use Rattle.geometry.proofs.queues_within.Goals.{then-within, else-within}
use Rattle.geometry.proofs.queues_within.Goals as goal

pub overflow_add-result : goal.overflow_add-result
overflow_add-result c =
    elim c.if-within.branch [
      | then-within w ↦ omega (
        arith,
        within_high 1 64 _ (sym c.within.ensures ∙ w.if-within.true),
        within_high 1 64 _ (sym w.within-then-within.ensures ∙ sym w.value-is ∙ c.if-within-2.true),
      )
      | else-within w ↦ cc
    ]

pub overflow_add-result-then-within-2 : goal.overflow_add-result-then-within-2
overflow_add-result-then-within-2 c =
    elim c.if-within.branch [
      | then-within w ↦ omega (
        arith,
        within_high 1 64 _ (sym c.within.ensures ∙ w.if-within.true),
        within_high 1 64 _ (sym w.within-then-within.ensures ∙ sym w.value-is ∙ c.if-within-2.true),
      )
      | else-within w ↦ cc
    ]

pub returns-then-within-2 : goal.returns-then-within-2
unfolding every
returns-then-within-2 c =
    elim c.if-within.branch [
      | then-within w ↦ rw (sym c.within.ensures ∙ w.if-within.true, sym w.within-then-within.ensures ∙ sym w.value-is ∙ c.if-within-2.true, and-true)
      | else-within w ↦ cc
    ]

pub returns-else-within-2 : goal.returns-else-within-2
unfolding every
returns-else-within-2 c =
    elim c.if-within.branch [
      | then-within w ↦ rw (c.if-within-2.false, sym c.within.ensures ∙ w.if-within.true, sym w.within-then-within.ensures ∙ sym w.value-is ∙ c.if-within-2.false)
      | else-within w ↦ rw (c.if-within-2.false, sym c.within.ensures ∙ w.if-within.false)
    ]

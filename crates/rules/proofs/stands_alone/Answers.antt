use borrow.Author.Tests.{eqb-true, eq-eqb}
use lib.ListN.{get_or}
use Prim.Native.Nat.{ℕ}
use mathlib.Core.Bool.{true≢false}
use mathlib.Core.Logic.{inl, inr}
use mathlib.Core.Path.{sym, ap, ◌∙◌}
use Rattle.rules.proofs.stands_alone.Goals as goal

pub returns-then-slots-slot : goal.returns-then-slots-slot
returns-then-slots-slot c = let a = c.args in
    (λ e. inl (ap (λ (s : ℕ). get_or a.slots.now s 0) (sym c.slot_of-slot.ensures) ∙ c.if-slots-slot.true), λ e. absurd (true≢false e))

pub returns : goal.returns
returns c = let n = c.count_of in
    (λ e. inr (sym n.ensures ∙ eqb-true n.result 1 e), λ e q. absurd (true≢false (sym (eq-eqb n.result 1 (n.ensures ∙ q)) ∙ e)))

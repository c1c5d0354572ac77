use Prim.Native.Nat.{◌+◌}
use mathlib.Core.Path.{◌≡◌, refl, sym, ap, ◌∙◌}
use mathlib.Core.Bool.{true, false}
use lib.ListN.{take, drop, get_or, drop_of_length-le}
use Rattle.lists.specs.Lists.{distinct}
use Rattle.lists.proofs.Arrays.{take-used}
use Rattle.model.specs.State.{holds, backs}
use Rattle.queue.specs.View.{no_entry}
use Rattle.queue.proofs.Laws.{searched, distinct-step}
use Rattle.queue.proofs.Queue.distinct.Goals as goal

pub loop-i-init : goal.loop-i-init
loop-i-init c = refl

pub returns-then-is_some : goal.returns-then-is_some
returns-then-is_some c =
    let q = c.args.self in
    let used = c.used-n in
    let i = c.loop-i.i in
    let l = take used.result q.items in
    let again : holds (get_or l i no_entry).back (drop (i + 1) l) ≡ true = sym (searched _ (i + 1) l c.find_in.ensures) ∙ sym c.is_some.ensures ∙ c.if-is_some.true in
    sym (ap (λ m. distinct (backs m)) (sym (take-used used.result q.len q.items used.ensures.0)) ∙ c.loop-i.invariant ∙ distinct-step i l c.loop-i-test.true true again)

pub loop-i-preserved : goal.loop-i-preserved
loop-i-preserved c =
    let i = c.loop-i.i in
    let l = take c.used-n.result c.args.self.items in
    let alone : holds (get_or l i no_entry).back (drop (i + 1) l) ≡ false = sym (searched _ (i + 1) l c.find_in.ensures) ∙ sym c.is_some.ensures ∙ c.if-is_some.false in
    c.loop-i.invariant ∙ distinct-step i l c.loop-i-test.true false alone

pub returns : goal.returns
unfolding distinct backs
returns c =
    let q = c.args.self in
    let used = c.used-n in
    let l = take used.result q.items in
    let none = drop_of_length-le l {i = c.loop-i.i} c.loop-i-test.false in
    sym (ap (λ m. distinct (backs m)) (sym (take-used used.result q.len q.items used.ensures.0)) ∙ c.loop-i.invariant ∙ rw none)

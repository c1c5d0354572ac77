use mathlib.Core.List.{append-nil}
use mathlib.Core.Bool.{true, false}
use mathlib.Core.Path.{◌≡◌, refl, sym, ap, ◌∙◌}
use native.Mathlib.Omega.{arith}
use lib.ListN.{get_or, length-set}
use borrow.Author.Tests.{eq-eqb, ne_eqb}
use borrow.Author.Rules.{rules}
use Rattle.lists.specs.Lists.{keep}
use Rattle.lists.proofs.Arrays.{written, keep-step, length_mapped, take-used}
use Rattle.model.specs.State.{is_of, is_other, without}
use Rattle.queue.proofs.InPlace.{unwritten, unwritten_more, unwritten_behind}
use Rattle.queue.specs.View.{no_entry}
use Rattle.queue.proofs.Queue.without.Goals as goal
use Rattle.queue.proofs.Queue.without.Goals.{then-e-b, else-e-b}

pub loop-i-init : goal.loop-i-init
unfolding without keep
loop-i-init c = record {
  behind = omega arith;
  places = search (rules, length_mapped);
  first = search (rules, length_mapped);
  kept = refl;
  rest = refl;
}

pub loop-i-preserved : goal.loop-i-preserved
unfolding without is_other is_of
loop-i-preserved c =
    let x = c.args in
    let l = c.loop-i in
    let now = l.invariant in
    let e = get_or l.self.items l.i no_entry in
    let own = unwritten l.i l.self.items x.self.items now.rest no_entry in
    elim c.if-e-b.branch [
      | then-e-b w ↦
          let other : is_other x.b (get_or x.self.items l.i no_entry) ≡ true = rw (← own, ne_eqb _ _ w.if-e-b.true) in
          rw (w.self-is, w.kept-is) (record {
            behind = omega arith;
            places = rw length-set now.places;
            first = now.first;
            kept = rw (written l.kept l.self.items e (omega arith), now.kept, own) (sym (keep-step (is_other x.b) l.i x.self.items no_entry (omega arith) true other));
            rest = unwritten_behind l.i l.self.items x.self.items now.rest l.kept _ now.behind;
          })
      | else-e-b w ↦
          let same : is_other x.b (get_or x.self.items l.i no_entry) ≡ false = rw (← own, eq-eqb _ _ w.if-e-b.false) in
          rw (w.self-is, w.kept-is) (record {
            behind = omega arith;
            places = now.places;
            first = now.first;
            kept = now.kept ∙ sym (keep-step (is_other x.b) l.i x.self.items no_entry (omega arith) false same ∙ append-nil _);
            rest = unwritten_more l.i l.self.items x.self.items now.rest;
          })
    ]

pub returns : goal.returns
returns c =
    let q = c.args.self in
    let used = c.used-n in
    let all : c.loop-i.i ≡ used.result = omega arith in
    rw all at c.loop-i.invariant.kept ∙ ap (without c.args.b) (take-used used.result q.len q.items used.ensures.0)

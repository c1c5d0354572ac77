use mathlib.Core.List.{map}
use mathlib.Core.Path.{◌≡◌, refl, ap, ◌∙◌}
use native.Mathlib.Omega.{arith}
use native.Mathlib.Nat.{le_refl}
use lib.ListN.{length-set}
use borrow.Author.Rules.{rules}
use Rattle.lists.proofs.Arrays.{mapped_more, length_mapped, take-used}
use Rattle.queue.proofs.InPlace.{unwritten, unwritten_behind}
use Rattle.queue.specs.View.{no_entry}
use Rattle.queue.proofs.Queue.changed.Goals as goal

pub loop-i-init : goal.loop-i-init
loop-i-init g c = record {
  places = search (rules, length_mapped);
  first = search (rules, length_mapped);
  rest = refl;
  changed = λ h post. refl;
}

pub loop-i-preserved : goal.loop-i-preserved
loop-i-preserved g c =
    let l = c.loop-i in
    let now = l.invariant in
    let items = l.self.items in
    let given = c.args.self.items in
    record {
      places = rw length-set now.places;
      first = now.first;
      rest = unwritten_behind l.i items given now.rest l.i c.f.result (le_refl l.i);
      changed = λ h post. rw (post _ _ c.f.ensures, unwritten l.i items given now.rest no_entry) (mapped_more h l.i given items no_entry (omega arith) (omega arith) (now.changed h post));
    }

pub returns : goal.returns
returns g c =
    let q = c.args.self in
    let used = c.used-n in
    let all : c.loop-i.i ≡ used.result = omega arith in
    λ h post. rw all at (c.loop-i.invariant.changed h post) ∙ ap (map h) (take-used used.result q.len q.items used.ensures.0)

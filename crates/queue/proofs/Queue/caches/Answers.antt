use mathlib.Core.Path.{◌≡◌, refl, ap, ◌∙◌}
use native.Mathlib.Omega.{arith}
use lib.ListN.{length-set}
use borrow.Author.Rules.{rules}
use Rattle.lists.proofs.Arrays.{mapped_more, length_mapped, take-used}
use Rattle.model.specs.State.{cache_bucket, caches}
use Rattle.queue.specs.View.{no_entry}
use Rattle.queue.proofs.Queue.caches.Goals as goal

pub loop-i-init : goal.loop-i-init
loop-i-init c = record { places = search rules; entries = search (rules, length_mapped); taken = refl }

pub loop-i-preserved : goal.loop-i-preserved
unfolding cache_bucket
loop-i-preserved c =
    let l = c.loop-i in
    let now = l.invariant in
    record {
      places = rw length-set now.places;
      entries = now.entries;
      taken = mapped_more cache_bucket l.i c.args.self.items l.items no_entry (omega arith) (omega arith) now.taken;
    }

pub returns : goal.returns
unfolding caches
returns c =
    let q = c.args.self in
    let used = c.used-n in
    let all : c.loop-i.i ≡ used.result = omega arith in
    rw all at c.loop-i.invariant.taken ∙ ap caches (take-used used.result q.len q.items used.ensures.0)

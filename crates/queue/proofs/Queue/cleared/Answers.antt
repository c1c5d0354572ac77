use mathlib.Core.Path.{◌≡◌, ◌∙◌}
use lib.ListN.{length, replicate}
use borrow.Author.Rules.{rules}
use borrow.Rule.Slice.PartMut.{mid_of}
use Prim.Native.Nat.{◌-◌}
use Rattle.lists.proofs.Arrays.{length_mapped, take-used}
use Rattle.fifo.proofs.Places.{filled_behind}
use Rattle.model.specs.State.{entry}
use Rattle.queue.specs.View.{no_entry}
use Rattle.queue.proofs.Queue.cleared.Goals as goal

pub returns : goal.returns
unfolding entry
returns c =
    let q = c.args.self in
    let used = c.used-n in
    let places : length q.items ≡ 64 = search (rules, length_mapped) in
    let zeros : c.fill.new.self ≡ replicate (length (mid_of used.result (length q.items - used.result) q.items)) no_entry = c.fill.ensures.after (λ y e. e) ∙ rw c.entry.ensures in
    rw (filled_behind 64 used.result no_entry q.items c.fill.new.self places used.ensures.1 zeros, take-used used.result q.len q.items used.ensures.0, used.ensures.0)

use mathlib.Core.Path.{◌≡◌, refl}
use native.Mathlib.Omega.{arith}
use lib.ListN.{length, length-take}
use borrow.Author.Tests.{leb-true}
use borrow.Author.Rules.{rules}
use Rattle.lists.proofs.Arrays.{padded_whole, length_mapped}
use Rattle.queue.specs.View.{entries_of, no_entry}
use Rattle.queue.proofs.Queue.has_places.Goals as goal

pub returns : goal.returns
returns c = let q = c.args.self in
    let n : length q.items ≡ 64 = search (rules, length_mapped) in
    record { value = refl; self_value = λ h. padded_whole q.len no_entry (entries_of q) (rw length-take (omega (arith, leb-true q.len 64 h))) }

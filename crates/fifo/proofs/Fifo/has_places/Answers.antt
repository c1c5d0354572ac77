use mathlib.Core.Path.{◌≡◌, refl}
use native.Mathlib.Omega.{arith}
use lib.ListN.{length, length-take}
use borrow.Author.Tests.{leb-true}
use borrow.Author.Rules.{rules}
use Rattle.lists.proofs.Arrays.{padded_whole}
use Rattle.fifo.specs.View.{list_of}
use Rattle.fifo.proofs.Fifo.has_places.Goals as goal

pub returns : goal.returns
returns c = let q = c.args.self in
    let n : length q.items ≡ 256 = search rules in
    record { value = refl; self_value = λ h. padded_whole q.len 0 (list_of q) (rw length-take (omega (arith, leb-true q.len 256 h))) }

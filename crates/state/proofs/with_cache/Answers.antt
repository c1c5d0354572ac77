use Prim.Native.Nat.{◌≤◌}
use mathlib.Core.Path.{◌≡◌, sym, ◌∙◌}
use native.Mathlib.Omega.{arith}
use lib.ListN.{length, length-take}
use borrow.Author.Rules.{rules}
use Rattle.lists.proofs.Arrays.{joined-none}
use Rattle.fifo.specs.View.{list_of}
use Rattle.queue.specs.View.{entries_of}
use Rattle.queue.proofs.Found.{found_some, found_none}
use Rattle.state.proofs.with_cache.Goals as goal

pub returns-in-Some : goal.returns-in-Some
returns-in-Some c =
    let x = c.args in
    let own = found_some x.b (entries_of x.queue) c.in-Some.own (sym c.find.ensures ∙ c.in-Some.is) in
    rw (c.push.ensures, own.caches)

pub returns-in-None : goal.returns-in-None
returns-in-None c =
    let x = c.args in
    let none = found_none x.b (entries_of x.queue) (sym c.find.ensures ∙ c.in-None.is) in
    let places : length x.gc.items ≡ 256 = search rules in
    let room : length (list_of x.gc) ≤ 256 = rw length-take (omega arith) in
    rw none.caches (sym (joined-none 256 (list_of x.gc) room))

use Prim.Native.Nat.{◌≤◌}
use mathlib.Core.List.{[], ◌∷◌, ◌++◌, append-nil}
use mathlib.Core.Path.{◌≡◌, sym, ◌∙◌}
use native.Mathlib.Omega.{arith}
use lib.ListN.{length, length-append, length-take}
use borrow.Author.Rules.{rules}
use Rattle.lists.proofs.Arrays.{joined-fits, length_mapped}
use Rattle.model.specs.State.{entry, without}
use Rattle.queue.proofs.Found.{found_some, found_none}
use Rattle.queue.proofs.Without.{without_absent, without-length}
use Rattle.queue.specs.View.{entries_of}
use Rattle.state.proofs.most_recent.Goals as goal

pub returns-in-Some : goal.returns-in-Some
returns-in-Some c =
    let x = c.args in
    let list = entries_of x.queue in
    let own = found_some x.b list c.in-Some.own (sym c.find.ensures ∙ c.in-Some.is) in
    let copy = entry x.b c.in-Some.own.cache 0 ∷ [] in
    let places : length x.queue.items ≡ 64 = search (rules, length_mapped) in
    let all : length list ≤ 64 = rw length-take (omega arith) in
    let room : length (without x.b list ++ copy) ≤ 64 = rw length-append (omega (arith, rw own.caches at (without-length x.b list))) in
    c.push.ensures ∙ rw (c.without.ensures, c.entry.ensures, own.caches) (joined-fits 64 (without x.b list) copy room)

pub returns-in-None : goal.returns-in-None
returns-in-None c =
    let x = c.args in
    let none = found_none x.b (entries_of x.queue) (sym c.find.ensures ∙ c.in-None.is) in
    rw (none.caches, without_absent x.b (entries_of x.queue) none.held, append-nil)

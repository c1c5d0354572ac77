use mathlib.Core.Path.{sym}
use native.Mathlib.Omega.{arith}
use lib.Seq.{get_or-take}
use borrow.Author.Rules.{rules}
use Rattle.lists.specs.Lists.{head}
use Rattle.fifo.proofs.Fifo.head.Goals as goal

pub returns-then-self-eq0 : goal.returns-then-self-eq0
unfolding head
returns-then-self-eq0 c = search rules

pub returns-else-self-eq0 : goal.returns-else-self-eq0
unfolding head
returns-else-self-eq0 c =
    let q = c.args.self in
    sym (get_or-take q.len q.items 0 0 (omega arith))

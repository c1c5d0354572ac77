use borrow.Author.Rules.{rules}
use Rattle.lists.proofs.Arrays.{take-used}
use Rattle.fifo.proofs.Places.{filled_behind}
use Rattle.fifo.proofs.Fifo.cleared.Goals as goal

pub returns : goal.returns
returns c =
    let q = c.args.self in
    let used = c.used-n in
    rw (filled_behind 256 used.result 0 q.items c.fill.new.self (search rules) used.ensures.1 (c.fill.ensures.after (λ y e. e)), take-used used.result q.len q.items used.ensures.0, used.ensures.0)

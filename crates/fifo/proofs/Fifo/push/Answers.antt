use borrow.Author.Rules.{rules}
use Rattle.lists.proofs.Arrays.{push_room, push_full}
use Rattle.fifo.proofs.Fifo.push.Goals as goal

pub returns-then-self-lt256 : goal.returns-then-self-lt256
returns-then-self-lt256 c =
    let q = c.args.self in
    push_room 256 q.len q.items c.args.c c.if-self-lt256.true (search rules)

pub returns-else-self-lt256 : goal.returns-else-self-lt256
returns-else-self-lt256 c =
    let q = c.args.self in
    push_full 256 q.len q.items c.args.c c.if-self-lt256.false (search rules)

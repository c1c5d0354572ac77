use borrow.Author.Rules.{rules}
use Rattle.lists.proofs.Arrays.{length_mapped, push_room, push_full}
use Rattle.queue.proofs.Queue.push.Goals as goal

pub returns-then-self-lt64 : goal.returns-then-self-lt64
returns-then-self-lt64 c =
    let q = c.args.self in
    push_room 64 q.len q.items c.args.e c.if-self-lt64.true (search (rules, length_mapped))

pub returns-else-self-lt64 : goal.returns-else-self-lt64
returns-else-self-lt64 c =
    let q = c.args.self in
    push_full 64 q.len q.items c.args.e c.if-self-lt64.false (search (rules, length_mapped))

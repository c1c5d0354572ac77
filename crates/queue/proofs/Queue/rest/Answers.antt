use Rattle.fifo.proofs.Places.{moved_up}
use Rattle.queue.proofs.Queue.rest.Goals as goal

pub returns : goal.returns
returns c =
    let q = c.args.self in
    rw c.copy_within.ensures.after (moved_up c.used-n.result q.len q.items c.used-n.ensures.0)

use Rattle.rules.proofs.Walk.{continues_told}
use Rattle.rules.proofs.continues.Goals as goal

pub returns : goal.returns
returns c = λ last tag p q. rw c.is_next-next.ensures (continues_told last tag _ _ p q)

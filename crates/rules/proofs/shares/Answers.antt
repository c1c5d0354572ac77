use Rattle.rules.proofs.Walk.{shares_told}
use Rattle.rules.proofs.shares.Goals as goal

pub returns : goal.returns
returns c = λ first tag p q. shares_told first tag _ _ p q

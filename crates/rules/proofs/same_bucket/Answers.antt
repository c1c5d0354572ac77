use Rattle.rules.specs.Pages.{same_bucket}
use Rattle.model.specs.Spare.{kind}
use Rattle.lists.specs.Lists.{every, part, same}
use Rattle.lists.proofs.Tests.{every_three}
use lib.Dec.{eqb}
use lib.ListN.{get_or}
use Rattle.rules.proofs.same_bucket.Goals as goal

pub returns : goal.returns
unfolding same_bucket every part kind
returns c = let a = c.args in let b = a.before.now in let p = a.page.now in
    rw c.equal-bucket.ensures (every_three (same (part b 4 8) (part p 4 8)) (eqb (kind p) (kind b)) (eqb (get_or p 3 0) 0))

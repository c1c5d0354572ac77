use Rattle.rules.specs.Pages.{goes_on}
use Rattle.rules.proofs.Page.{grouped_four}
use Rattle.model.specs.Spare.{ordinal, pages}
use Rattle.lists.specs.Lists.{every, part, same}
use lib.Dec.{eqb, ltb}
use Prim.Native.Nat.{◌+◌}
use Rattle.rules.proofs.goes_on.Goals as goal

pub returns : goal.returns
unfolding goes_on every part ordinal pages
returns c = let a = c.args in let b = a.before.now in let p = a.page.now in
    rw (c.equal.ensures, c.is_next-next.ensures)
    (grouped_four (eqb (ordinal p) (ordinal b + 1)) (eqb (pages p) (pages b)) (ltb (ordinal p) (pages p)) (same (part b 12 4) (part p 12 4)))

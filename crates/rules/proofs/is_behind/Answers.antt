use mathlib.Core.Path.{sym}
use Rattle.rules.proofs.Walk.{behind_first, behind_later}
use Rattle.image.specs.Chip.{spare_only}
use Rattle.model.specs.Image.{page_blank}
use Rattle.rules.proofs.is_behind.Goals as goal

pub returns-then-k-eq0 : goal.returns-then-k-eq0
returns-then-k-eq0 c = let a = c.args in sym (behind_first a.z (spare_only a.spare.now) a.c a.k c.if-k-eq0.true)

pub returns : goal.returns
unfolding page_blank
returns c = let a = c.args in rw (c.page_blank.ensures, behind_later a.z (spare_only a.spare.now) a.c a.k c.if-k-eq0.false)

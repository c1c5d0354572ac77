use Rattle.holes.proofs.First.{head_speaks}
use Rattle.image.specs.Chip.{spare_only}
use Rattle.model.specs.Ledger.{found_fits}
use Rattle.lists.proofs.Tests.{if_false}
use mathlib.Core.Path.{sym, ◌∙◌}
use Rattle.holes.proofs.head_page.Goals as goal

pub returns-else-marked : goal.returns-else-marked
unfolding found_fits
returns-else-marked c = let o = c in let a = o.args in
    head_speaks a.z (spare_only a.spare.now) a.c c.head.result (sym (if_false _ _ (sym o.requires.marked_value ∙ c.if-marked.false)) ∙ o.requires.c_value) c.head.ensures

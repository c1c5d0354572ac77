use Rattle.lists.proofs.Windows.{part-part}
use Rattle.lists.proofs.Lent.{lent_part}
use Prim.Native.Nat.{◌+◌, ◌*◌}
use lib.ListN.{length}
use mathlib.Core.Path.{sym, ◌∙◌}
use Rattle.gather.proofs.piece_range.Goals as goal

pub returns : goal.returns
returns c = let a = c.args in
    let n = length a.window.now in
    c.copy_over.ensures ∙ lent_part a.area.now (a.index * a.size + a.from) n ∙ sym (part-part a.area.now (a.index * a.size) a.size a.from n c.requires.window_bound c.requires.size_in_bounds)

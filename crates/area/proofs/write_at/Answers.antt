use mathlib.Core.Path.{refl}
use lib.ListN.{length}
use Rattle.lists.proofs.Lent.{put_back}
use Rattle.area.proofs.write_at.Goals as goal

pub returns : goal.returns
returns c = let a = c.args in
    put_back a.area.now a.at (length a.source.now) c.copy_over.ensures refl

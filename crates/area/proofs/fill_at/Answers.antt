use mathlib.Core.Path.{◌∙◌, ap}
use lib.ListN.{replicate, length-replicate}
use Rattle.lists.proofs.Lent.{put_back, lent_length}
use native.Mathlib.Omega.{arith}
use Prim.Native.Nat.{ℕ}
use Rattle.area.proofs.fill_at.Goals as goal

pub returns : goal.returns
returns c = let a = c.args in
    let filled = ap (λ (n : ℕ). replicate n a.byte) (lent_length a.area.now a.at a.count (omega arith)) in
    put_back a.area.now a.at a.count (c.fill.ensures ∙ filled) (length-replicate a.count a.byte)

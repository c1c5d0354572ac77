use Rattle.overlay.proofs.Found.{listed, ends_used}
use Rattle.model.specs.Sizes.{body}
use lib.ListN.{length}
use native.Mathlib.Omega.{arith}
use Prim.Native.Nat.{◌-◌}
use Rattle.overlay.proofs.newest_pages.Goals as goal

pub returns : goal.returns
returns c = let start = c in let a = start.args in
    λ x some. ends_used x (listed (body a.z) a.list.now start.requires.list_value (length a.list.now - 1) (omega (arith, some))) c.pages_used_at.ensures

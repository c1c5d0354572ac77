use Rattle.log_pages.proofs.Pages.{small}
use Rattle.spare.specs.Fields.{tag}
use native.Mathlib.Omega.{arith}
use mathlib.Core.Path.{◌≡◌}
use Prim.Native.Nat.{◌+◌, ◌-◌}
use Rattle.log_pages.proofs.page_tag.Goals as goal

pub pages_for-pages-requires : goal.pages_for-pages-requires
pages_for-pages-requires c = (c.requires.0.limits, (small c.requires.0).bytes)

pub overflow_cast-n : goal.overflow_cast-n
overflow_cast-n c = omega (arith, (small c.requires.0).bytes)

pub returns : goal.returns
unfolding tag
returns c =
    let n = c.args.n in
    let whole : n - 1 + 1 ≡ n = omega (arith, c.requires.0.some) in
    rw (c.encode.ensures, c.pages_for-pages.ensures, whole)

use lib.ListN.{length, take, drop}
use Rattle.spare.proofs.Runs.{run_pages}
use Rattle.lists.proofs.Parts.{length-part-fits}
use Rattle.lists.specs.Lists.{all_below, part, same, ff}
use Prim.Native.Nat.{ℕ, ◌+◌, ◌*◌, ◌-◌}
use native.Mathlib.Omega.{arith}
use mathlib.Core.Path.{◌≡◌, ap, ◌∙◌}
use Rattle.spare.proofs.are_blank.Goals as goal

pub returns-then-n-eq0 : goal.returns-then-n-eq0
unfolding all_below
returns-then-n-eq0 c = rw c.if-n-eq0.true

pub returns : goal.returns
unfolding part
returns c = let o = c in let a = o.args in
    let e : (a.page + a.n) * 16 - a.page * 16 ≡ a.n * 16 = omega arith in
    c.all_erased.ensures
    ∙ (ap (λ (m : ℕ). same (take m (drop (a.page * 16) a.spare.now)) (ff (length (take m (drop (a.page * 16) a.spare.now))))) e
    ∙ (ap (λ (m : ℕ). same (part a.spare.now (a.page * 16) (a.n * 16)) (ff m)) (length-part-fits a.spare.now (a.page * 16) (a.n * 16) (omega (arith, o.requires)))
    ∙ run_pages a.spare.now a.page a.n o.requires))

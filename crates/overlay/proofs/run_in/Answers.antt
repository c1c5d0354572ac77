use Rattle.std.proofs.Common.{◌≡◌, ◌+◌, ◌-◌, sym, ◌∙◌, arith}
use Rattle.overlay.proofs.Found.{Above, run_found, run_none}
use Rattle.overlay.proofs.run_in.Goals as goal

pub returns-then-covers : goal.returns-then-covers
returns-then-covers c = let a = c.args in
    let l = c.loop-k in
    let up : l.k - 1 + 1 ≡ l.k = omega arith in
    let above : Above a.z a.spare.now a.c l.start a.x (l.k - 1 + 1) = rw up l.invariant.3 in
    rw c.max-first.ensures (run_found l.invariant.1 l.invariant.2 above c.in-Some.ensures (sym c.covers.ensures ∙ c.if-covers.true))

pub returns : goal.returns
returns c = let l = c.loop-k in
    let none : l.k ≡ 0 = omega arith in
    run_none l.invariant.1 l.invariant.2 (rw none at l.invariant.3)

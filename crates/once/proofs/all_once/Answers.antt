use Prim.Native.Nat.{ℕ, ◌<◌}
use mathlib.Core.Path.{◌≡◌, refl, sym, ap, ◌∙◌}
use native.Mathlib.Omega.{arith}
use lib.Dec.{eqb}
use lib.ListN.{get_or, length-take}
use lib.Seq.{get_or-take, length-take-le}
use Rattle.lists.specs.Lists.{all_below}
use Rattle.lists.proofs.Turns.{all_more}
use Rattle.once.proofs.all_once.Goals as goal

pub loop-count-init : goal.loop-count-init
unfolding all_below
loop-count-init c = refl

pub loop-count-preserved : goal.loop-count-preserved
loop-count-preserved c =
    let counts = c.args.counts.now in
    let x = c.loop-count.count-index in
    let first : x < c.args.c = omega (arith, length-take c.args.c counts) in
    rw (c.loop-count.invariant, get_or-take c.args.c counts x 0 first) (sym (all_more x (λ k. eqb (get_or counts k 0) 1)))

pub returns : goal.returns
returns c =
    let counts = c.args.counts.now in
    let all : c.loop-count.count-index ≡ c.args.c = omega (arith, length-take-le c.args.c counts (omega arith)) in
    c.loop-count.invariant ∙ ap (λ (n : ℕ). all_below n (λ k. eqb (get_or counts k 0) 1)) all

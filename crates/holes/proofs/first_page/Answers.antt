use Rattle.holes.proofs.First.{none_yet, none_more, first_at, first_last}
use Rattle.image.specs.Chip.{spare_only}
use Rattle.model.specs.Image.{page_programmed}
use native.Mathlib.Omega.{arith}
use Prim.Native.Nat.{◌-◌}
use mathlib.Core.Path.{◌≡◌, sym, ◌∙◌}
use Rattle.holes.proofs.first_page.Goals as goal

pub overflow_sub-last : goal.overflow_sub-last
overflow_sub-last c = omega (arith, c.requires.chip.limits.p_low)

pub loop-k-init : goal.loop-k-init
loop-k-init c = let a = c.args in none_yet a.z (spare_only a.spare.now) a.c

pub page_programmed-requires : goal.page_programmed-requires
page_programmed-requires c = let o = c in record { chip = o.requires.chip; c_lt_c = o.requires.c_lt_c; k_lt_p = omega arith }

pub returns-then-page_programmed : goal.returns-then-page_programmed
unfolding page_programmed
returns-then-page_programmed c = let a = c.args in let l = c.loop-k in
    first_at a.z (spare_only a.spare.now) a.c l.k (omega arith) l.invariant (sym c.page_programmed.ensures ∙ c.if-page_programmed.true)

pub loop-k-preserved : goal.loop-k-preserved
unfolding page_programmed
loop-k-preserved c = let a = c.args in let l = c.loop-k in
    none_more a.z (spare_only a.spare.now) a.c l.k l.invariant (sym c.page_programmed.ensures ∙ c.if-page_programmed.false)

pub returns : goal.returns
returns c = let a = c.args in let e : c.loop-k.k ≡ a.z.p - 1 = omega arith in
    first_last a.z (spare_only a.spare.now) a.c _ (omega (arith, c.requires.chip.limits.p_low)) (rw e at c.loop-k.invariant)

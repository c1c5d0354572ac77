use native.Mathlib.Omega.{arith}
use mathlib.Core.Path.{sym, ◌∙◌}
use Rattle.lists.proofs.Tests.{and-true}
use Rattle.lists.proofs.Turns.{all_more}
use Rattle.image.specs.Chip.{spare_only}
use Rattle.rules.specs.Pages.{fits_at}
use Rattle.rules.proofs.fitting_from.Goals as goal

pub run_end-k-requires : goal.run_end-k-requires
run_end-k-requires c = let o = c in record { chip = o.requires.chip; c_lt_c = o.requires.c_lt_c; le_k = (omega arith, o.requires.fitting) }

pub loop-k-init : goal.loop-k-init
loop-k-init c = (omega (arith, c.run_end-k.ensures.0), c.run_end-k.ensures.1)

pub later_fits_at-requires : goal.later_fits_at-requires
later_fits_at-requires c = let o = c in let l = c.loop-k in record { chip = o.requires.chip; c_lt_c = o.requires.c_lt_c; le_k = (l.invariant.0, c.loop-k-test.true) }

pub returns-then-not-later_fits_at : goal.returns-then-not-later_fits_at
returns-then-not-later_fits_at c = c.loop-k.invariant.1

pub run_end-k-requires-in-loop-k : goal.run_end-k-requires-in-loop-k
run_end-k-requires-in-loop-k c = let o = c in let a = o.args in let l = c.loop-k in record { chip = o.requires.chip; c_lt_c = o.requires.c_lt_c; le_k = (omega arith, (omega arith, all_more l.k (fits_at a.z (spare_only a.spare.now) a.c) ∙ and-true l.invariant.1.1 (sym c.later_fits_at.ensures ∙ c.if-not-later_fits_at.false))) }

pub loop-k-smaller : goal.loop-k-smaller
loop-k-smaller c = omega (arith, c.run_end-k-in-loop-k.ensures.0)

pub loop-k-preserved : goal.loop-k-preserved
loop-k-preserved c = (omega (arith, c.run_end-k-in-loop-k.ensures.0), c.run_end-k-in-loop-k.ensures.1)

pub returns : goal.returns
returns c = c.loop-k.invariant.1

use Rattle.rules.specs.Pages.{fits_at}
use Rattle.image.specs.Chip.{spare_only}
use Rattle.lists.specs.Lists.{all_below}
use Rattle.lists.proofs.Turns.{all_more}
use Rattle.lists.proofs.Tests.{and-true}
use mathlib.Core.Path.{refl, sym, ◌∙◌}
use native.Mathlib.Omega.{arith}
use Rattle.rules.proofs.fitting.Goals as goal

pub returns-then-not-first_fits_at : goal.returns-then-not-first_fits_at
unfolding all_below
returns-then-not-first_fits_at c = (omega arith, refl)

pub fitting_from-requires : goal.fitting_from-requires
unfolding all_below
fitting_from-requires c = let o = c in let a = o.args in record {
  chip = o.requires.chip;
  c_lt_c = o.requires.c_lt_c;
  fitting = (
    o.requires.chip.limits.p_low,
    all_more 0 (fits_at a.z (spare_only a.spare.now) a.c) ∙ and-true refl (sym c.first_fits_at.ensures ∙ c.if-not-first_fits_at.false),
  );
}

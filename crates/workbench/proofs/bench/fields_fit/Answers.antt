-- `workbench::bench::fields_fit` meets its contract.
use mathlib.Core.Path.{sym}
use mathlib.Core.Bool.{true≢false}
use native.Mathlib.Omega.{arith}
use borrow.Author.Tests.{eqb-true}
use Rattle.workbench.proofs.bench.fields_fit.Goals as goal

pub returns-in-18 : goal.returns-in-18
returns-in-18 c = λ e. record {
  page = λ o. eqb-true _ _ e;
  unit = λ o. absurd (omega (arith, o, c.in-18.is));
  text = λ o. absurd (omega (arith, o, c.in-18.is));
}

pub returns-in-20 : goal.returns-in-20
returns-in-20 c = λ e. record {
  page = λ o. absurd (omega (arith, o, c.in-20.is));
  unit = λ o. eqb-true _ _ e;
  text = λ o. absurd (omega (arith, o, c.in-20.is));
}

pub returns-in-48 : goal.returns-in-48
returns-in-48 c = λ e. record {
  page = λ o. absurd (omega (arith, o, c.in-48.is));
  unit = λ o. absurd (omega (arith, o, c.in-48.is));
  text = λ o. c.buffer_fits.ensures e;
}

pub returns-in_default-3 : goal.returns-in_default-3
returns-in_default-3 c = λ e. absurd (true≢false (sym e))

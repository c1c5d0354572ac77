-- The numbers of what checks find, and of what `?` hands on.
use mathlib.Core.Path.{◌≡◌, ap}
use Rattle.std.specs.Prelude.{Result, Ok, Err}
use Rattle.std.specs.Result.{IsErrAnd}
use Rattle.model.specs.declared.Refusal.{Refusal}
use Rattle.model.specs.declared.Refusal.TheVariants.{Limits, Lengths, NotRunning, Image, State, Place, Range, Epochs, Line, Twice, NoFrame, NoRoom}
use Rattle.model.specs.Tests.{number_of, number}

-- no refusal has the number of a check that passed
pub refused_lem : (e : Refusal) → number_of e ≡ 0 → ⊥
refused_lem Limits h = cc
refused_lem Lengths h = cc
refused_lem NotRunning h = cc
refused_lem Image h = cc
refused_lem State h = cc
refused_lem Place h = cc
refused_lem Range h = cc
refused_lem Epochs h = cc
refused_lem Line h = cc
refused_lem Twice h = cc
refused_lem NoFrame h = cc
refused_lem NoRoom h = cc

-- a `?` hands its refusal on
pub handed_on : (r : Result (Unit {0}) Refusal) (e : Refusal) → IsErrAnd r (λ (x : Refusal). x ≡ e) → number r ≡ number_of e
handed_on (Ok passed) e h = absurd h
handed_on (Err x) e h = ap number_of h

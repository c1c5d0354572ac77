-- A check that gives no error.
use mathlib.Core.Path.{◌≡◌, refl}
use mathlib.Core.Bool.{false}
use Rattle.std.specs.Prelude.{Result, Ok, Err}
use Rattle.std.specs.Result.{is_err}
use Rattle.model.specs.declared.Refusal.{Refusal}
use Rattle.model.specs.Tests.{number}

pub no_error : (r : Result (Unit {0}) Refusal) → is_err r ≡ false → number r ≡ 0
no_error (Ok passed) h = refl
no_error (Err refusal) h = cc

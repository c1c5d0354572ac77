-- `drive::is_done` meets its contract.
use mathlib.Core.Bool.{false}
use mathlib.Core.Path.{◌≡◌, refl}
use Rattle.model.specs.declared.Answer.{Answer}
use Rattle.model.specs.declared.Answer.TheVariants.{Done, Idle, Cut, Refused}
use Rattle.model.specs.Calls.{is_done}
use Rattle.drive.proofs.is_done.Goals as goal

other : (a : Answer) → (a ≡ Done → ⊥) → false ≡ is_done a
unfolding is_done
other Done h = absurd (h refl)
other Idle h = refl
other Cut h = refl
other (Refused n) h = refl

pub returns-in-Done : goal.returns-in-Done
unfolding is_done
returns-in-Done c = rw c.in-Done.is

pub returns-in_default : goal.returns-in_default
returns-in_default c = other c.args.answer c.in_default.not-Done

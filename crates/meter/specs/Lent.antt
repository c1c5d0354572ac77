-- The code's run as the run of the definitions.
use Rattle.std.specs.Prelude.{◌≡◌}
use Rattle.model.specs.declared.Sizes.{Sizes}
use Rattle.geometry.specs.Geometry.{Lent}
use Rattle.meter.specs.Run as model
use Rattle.meter.specs.declared.Run.{Run}

-- what is lent to it, and its allowance
abbrev pub run_of : Run → model.Run
run_of r = model.running r.flash.now r.spare.now r.disk.now r.meter

-- areas of the lengths that number 2 asks for are lent to it
abbrev pub LentTo : Sizes → Run → Type 0
LentTo z r = Lent z r.flash.now r.spare.now r.disk.now

-- these very areas still are
pub record Stays (z : Sizes) (old new : Run) : Type 0 where
  pub lent : LentTo z new
  pub flash : new.flash.ghost_name ≡ old.flash.ghost_name
  pub spare : new.spare.ghost_name ≡ old.spare.ghost_name
  pub disk : new.disk.ghost_name ≡ old.disk.ghost_name

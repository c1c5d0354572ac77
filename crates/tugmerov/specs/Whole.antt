-- How far the program has come when it stops and the output has not failed.
use Rattle.std.specs.Prelude.{◌≡◌, List, [], ◌++◌, ℕ}
use Rattle.model.specs.Driving.{output}
use Rattle.input.specs.Ways.{Place, Closed, Leg, Ways, pieces, texts}

-- the pieces that led here, and the text written of each
pub record Reached (from to : Place) : Type 0 where
  pub legs : List Leg
  pub ways : Ways from legs to

-- such pieces, and the end of the input after the last
pub record Ended (from to : Place) : Type 0 where
  pub last : Place
  pub reached : Reached from last
  pub written : ℕ
  pub closed : Closed last written to

-- from the start to the end of the input, what was written of the pieces and at their end is the output of the whole
pub record Whole (to : Place) : Type 0 where
  pub ended : Ended output to
  pub all : texts ended.reached.legs ++ ended.last [] ≡ output (pieces ended.reached.legs)

-- `line::Line::left` meets its contract.
use native.Mathlib.Omega.{arith}
use lib.ListN.{length-drop}
use Rattle.model.specs.Driving.{bytes_of}
use Rattle.model.proofs.Digits.{bytes_length}
use Rattle.line.proofs.Line.left.Goals as goal

pub returns : goal.returns
returns c = let line = c.args.self in
    omega (arith, length-drop line.at (bytes_of line.text.now), bytes_length line.text.now)

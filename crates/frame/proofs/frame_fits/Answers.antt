-- `frame::frame_fits` meets its contract.
use mathlib.Core.Path.{sym, ◌∙◌}
use Rattle.model.specs.Driving.{bytes_of}
use Rattle.model.proofs.Digits.{bytes_length}
use Rattle.frame.proofs.Fits.{known_fits, unknown}
use Rattle.frame.proofs.frame_fits.Goals as goal

pub returns-in-Some : goal.returns-in-Some
returns-in-Some c = let line = c.args.line.now in
    c.fits.ensures ∙ sym (known_fits (bytes_of line) c.in-Some.operation (sym c.frame_operation.ensures ∙ c.in-Some.ensures) ∙ rw (bytes_length line))

pub returns-in-None : goal.returns-in-None
returns-in-None c = sym (unknown (bytes_of c.args.line.now) (rw c.frame_operation.ensures at c.in-None.ensures))

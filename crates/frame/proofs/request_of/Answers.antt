-- `frame::request_of` meets its contract.
use mathlib.Core.Path.{sym, ◌∙◌}
use Rattle.frame.specs.Request.{request_of}
use Rattle.frame.proofs.request_of.Goals as goal

pub returns-then-line_fits : goal.returns-then-line_fits
unfolding request_of
returns-then-line_fits c = rw (c.frame_request.ensures, sym c.line_fits.ensures ∙ c.if-line_fits.true)

pub returns-else-line_fits : goal.returns-else-line_fits
unfolding request_of
returns-else-line_fits c = rw (sym c.line_fits.ensures ∙ c.if-line_fits.false)

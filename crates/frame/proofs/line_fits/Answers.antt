-- `frame::line_fits` meets its contract.
use mathlib.Core.Path.{sym}
use native.Mathlib.Omega.{arith}
use Rattle.frame.proofs.Fits.{too_long, short_fits}
use Rattle.frame.proofs.line_fits.Goals as goal

pub returns-then-line-gt-LONGEST : goal.returns-then-line-gt-LONGEST
returns-then-line-gt-LONGEST c = sym (too_long c.args.line.now (omega arith))

pub returns : goal.returns
returns c = rw (c.all_digits.ensures, c.frame_fits.ensures) (sym (short_fits c.args.line.now (omega arith)))

-- `writing::form_size` meets its contract.
use native.Mathlib.Omega.{arith}
use Rattle.state.specs.View.{places_of}
use Rattle.form.proofs.Written.{form_wide}
use Rattle.form.proofs.writing.form_size.Goals as goal

pub returns : goal.returns
returns c = omega (arith, form_wide (places_of c.args.s), c.used-reads.ensures.0, c.used-writes.ensures.0, c.used.ensures.0, c.used-2.ensures.0)

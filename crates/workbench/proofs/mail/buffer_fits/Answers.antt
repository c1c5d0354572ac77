-- `workbench::mail::buffer_fits` meets its contract.
use native.Mathlib.Omega.{arith}
use borrow.Author.Tests.{leb-true}
use lib.ListN.{length}
use lib.Dec.{eqb, leb}
use Rattle.lists.proofs.Tests.{and_right}
use Rattle.workbench.proofs.mail.buffer_fits.Goals as goal

pub returns : goal.returns
returns c = λ e. let long = c.long_number in
    let length-fits = eqb (length c.args.fields.now) 4 in
    omega (arith, long.ensures, leb-true long.result 131072 (and_right length-fits (leb long.result 131072) e))

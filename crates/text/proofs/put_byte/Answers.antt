-- `text::put_byte` meets its contract.
use native.Mathlib.Omega.{arith}
use lib.ListN.{length-set}
use Rattle.model.specs.Driving.{digits_of}
use Rattle.text.proofs.Digits.{put_two}
use Rattle.text.proofs.put_byte.Goals as goal

pub bounds-out-at-2 : goal.bounds-out-at-2
bounds-out-at-2 c = simp length-set (omega arith)

pub returns : goal.returns
unfolding digits_of
returns c = rw (c.capital-2.ensures, c.capital.ensures) (put_two c.args.out.now c.args.at _ _ (omega arith))

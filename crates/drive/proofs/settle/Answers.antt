-- `drive::settle` meets its contract.

use Rattle.drive.proofs.settle.Goals as goal

pub returns : goal.returns
returns c = rw c.sizes_kept-sizes.ensures

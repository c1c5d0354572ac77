-- `calls::write_bytes` meets its contract.

use Rattle.calls.proofs.write_bytes.Goals as goal

pub returns : goal.returns
returns c = rw c.write_data.ensures at c.write.ensures

-- `lines::gather` meets its contract.
use native.Mathlib.Omega.{arith}
use Rattle.lines.proofs.Held.{held_cut}
use Rattle.lines.proofs.gather.Goals as goal

pub returns : goal.returns
returns c = let a = c.args in
    (omega arith, rw c.write_at.ensures (held_cut a.line.now a.held c.requires a.bytes.now _ c.min-taken.ensures))

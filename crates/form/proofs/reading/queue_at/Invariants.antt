use Prim.Native.Nat.{◌+◌}
use Rattle.queue.specs.View.{entries_of}
use Rattle.form.specs.Form.{entry_widths, entry_from}
use Rattle.form.proofs.Found.{Made}
use Rattle.form.proofs.reading.queue_at.Given as goal

abbrev pub invariant-loop-i : goal.invariant-loop-i
invariant-loop-i l = Made (entry_widths l.write) entry_from l.bytes (l.at + 1) l.n (entries_of l.queue) l.i

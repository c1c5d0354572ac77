-- `frame::frame_request` meets its contract: the operation is the first field of the walk, and the allowance the second.
use Rattle.std.proofs.Common.{◌∙◌}
use Rattle.frame.proofs.Asked.{format-walked, read-walked, write-walked, erase-walked, drain-walked, recover-walked, nothing-walked}
use Rattle.frame.proofs.frame_request.Goals as goal

pub returns-in-Some-Format : goal.returns-in-Some-Format
returns-in-Some-Format c = c.format_request.ensures ∙ format-walked c.start.ensures c.next-operation.ensures c.next-allowance.ensures (rw c.in-Some-Format.field-0-is at c.in-Some-Format.ensures)

pub returns-in-Some-Read : goal.returns-in-Some-Read
returns-in-Some-Read c = c.read_request.ensures ∙ read-walked c.start.ensures c.next-operation.ensures c.next-allowance.ensures (rw c.in-Some-Read.field-0-is at c.in-Some-Read.ensures)

pub returns-in-Some-Write : goal.returns-in-Some-Write
returns-in-Some-Write c = c.write_request.ensures ∙ write-walked c.start.ensures c.next-operation.ensures c.next-allowance.ensures (rw c.in-Some-Write.field-0-is at c.in-Some-Write.ensures)

pub returns-in-Some-EraseStep : goal.returns-in-Some-EraseStep
returns-in-Some-EraseStep c = erase-walked c.start.ensures c.next-operation.ensures c.next-allowance.ensures (rw c.in-Some-EraseStep.field-0-is at c.in-Some-EraseStep.ensures)

pub returns-in-Some-Drain : goal.returns-in-Some-Drain
returns-in-Some-Drain c = drain-walked c.start.ensures c.next-operation.ensures c.next-allowance.ensures (rw c.in-Some-Drain.field-0-is at c.in-Some-Drain.ensures)

pub returns-in-Some-Recover : goal.returns-in-Some-Recover
returns-in-Some-Recover c = recover-walked c.start.ensures c.next-operation.ensures c.next-allowance.ensures (rw c.in-Some-Recover.field-0-is at c.in-Some-Recover.ensures)

pub returns-in-None : goal.returns-in-None
returns-in-None c = nothing-walked c.start.ensures c.next-operation.ensures c.next-allowance.ensures c.in-None.ensures

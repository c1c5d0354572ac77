-- `reading::entry_at` meets its contract.
use mathlib.Core.Path.{sym}
use Rattle.form.proofs.Found.{entry_at}
use Rattle.form.proofs.reading.entry_at.Goals as goal

pub returns : goal.returns
returns c = let a = c.args in
    rw (c.number_at-back.ensures.0, c.byte_at-cache.ensures, c.extra_at-priority.ensures, c.extra_at-mark.ensures, c.extra_at-blank.ensures) (sym (entry_at a.write a.bytes.now a.at))

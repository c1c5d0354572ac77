-- `workbench::bench::on_frame` meets its contract.

use Rattle.std.proofs.lemmas.Bool.{not-false}
use Rattle.workbench.proofs.bench.on_frame.Goals as goal

pub does-requires : goal.does-requires
does-requires c = let start = c in
    let formatted = not-false c.args.b.recorder.formatted c.if-not-recorder.false in
    let held = start.requires.hex.1 formatted in
    record { held = (held, rw (c.page_size-s.ensures.1 formatted) at (c.fields_fit.ensures (c.if-not-fields_fit.false))); arrays = start.requires.arrays }

use mathlib.Core.Path.{ap, ◌∙◌}
use native.Mathlib.Omega.{arith}
use lib.ListN.{length}
use Rattle.classes.proofs.Columns.{sole_column, dropped_write_column}
use Rattle.classes.proofs.Orders.{order_short}
use Rattle.image.specs.Chip.{spare_only}
use Rattle.model.proofs.Formed.{formed_of}
use Rattle.classes.proofs.write_columns.Goals as goal

pub all_occurring-requires : goal.all_occurring-requires
all_occurring-requires c = let n = ap length c.requires.order_value in record { other_len_bound = omega (arith, c.requires.writes_len.0, n, order_short c.args.z (spare_only c.args.spare.now), c.requires.chip.limits.ledger_in, c.requires.chip.limits.c_high); out_len = omega (arith, c.requires.writes_len.0, c.requires.writes_len.1) }

pub returns : goal.returns
returns c = let fill = c.fill in
    let z = c.args.z in
    let d = spare_only c.args.spare.now in
    let formed = formed_of z d c.requires.spare_value in
    let writes = fill.ensures in
    record { writes_after = writes; dropped_after = c.all_but.ensures ∙ rw (c.all_occurring.ensures, writes, sole_column z d c.requires.chip.limits formed) (dropped_write_column z d c.requires.chip.limits formed) }

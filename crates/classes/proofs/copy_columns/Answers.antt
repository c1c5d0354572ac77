use mathlib.Core.Path.{◌≡◌, ap, ◌∙◌}
use native.Mathlib.Omega.{arith}
use lib.ListN.{length, length-map}
use Rattle.classes.proofs.Columns.{last_column, absent_column, dropped_copy_column}
use Rattle.classes.proofs.Orders.{order_short}
use Rattle.classes.specs.Columns.{in_order, column, named}
use Rattle.model.specs.Recover.{is_chosen, is_dropped_write}
use Rattle.image.specs.Chip.{spare_only}
use Rattle.model.proofs.Formed.{formed_of}
use Rattle.classes.proofs.copy_columns.Goals as goal

pub last_of_each-requires : goal.last_of_each-requires
last_of_each-requires c = omega (arith, c.requires.copies_len.0, ap length c.requires.order_value, order_short c.args.z (spare_only c.args.spare.now), c.requires.chip.limits.ledger_in, c.requires.chip.limits.c_high)

pub all_occurring-requires : goal.all_occurring-requires
all_occurring-requires c = let z = c.args.z in
    let d = spare_only c.args.spare.now in
    let n = ap length c.requires.writes_value ∙ length-map (in_order z d) (named z d (is_dropped_write z d)) in record { other_len_bound = omega (arith, n, order_short z d, c.requires.chip.limits.ledger_in, c.requires.chip.limits.c_high); out_len = omega (arith, c.requires.copies_len.0, c.requires.copies_len.1) }

pub returns : goal.returns
returns c = let last-of-each = c.last_of_each in
    let fill = c.fill in
    let z = c.args.z in
    let d = spare_only c.args.spare.now in
    let formed = formed_of z d c.requires.spare_value in
    let chosen = last_column z d c.requires.chip.limits formed in
    let copies : last-of-each.new.column ≡ column z d (is_chosen z d) = last-of-each.ensures ∙ rw fill.ensures chosen in
    record { copies_after = copies; dropped_after = c.all_but.ensures ∙ rw (c.all_occurring.ensures, copies, c.requires.writes_value, absent_column z d c.requires.chip.limits formed) (dropped_copy_column z d c.requires.chip.limits formed) }

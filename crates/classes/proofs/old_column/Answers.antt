use Rattle.classes.proofs.Orders.{at_order, beside, order_below}
use Rattle.classes.proofs.Turns.{made_more, made_end}
use Rattle.classes.proofs.Columns.{old_named}
use Rattle.classes.specs.Columns.{in_order, named}
use Rattle.image.specs.Chip.{spare_only}
use Rattle.model.proofs.Formed.{formed_of}
use Rattle.model.specs.Recover.{is_chosen, is_old_copy}
use lib.ListN.{length, get_or, length-map}
use mathlib.Core.List.{map}
use mathlib.Core.Path.{◌≡◌, ap, ◌∙◌}
use Prim.Native.Nat.{◌<◌}
use native.Mathlib.Omega.{arith}
use Rattle.classes.proofs.old_column.Goals as goal

pub bounds-copies-i : goal.bounds-copies-i
bounds-copies-i c = let z = c.args.z in let d = spare_only c.args.spare.now in
    omega (arith, ap length c.requires.copies_value, length-map (in_order z d) (named z d (is_chosen z d)), ap length c.requires.order_value)

pub old_back-requires : goal.old_back-requires
old_back-requires c = record {
  chip = c.requires.chip;
  spare_value = c.requires.spare_value;
  c_bound = order_below c.args.z (spare_only c.args.spare.now) c.requires.order_value c.loop-i.i (omega arith);
}

pub loop-i-preserved : goal.loop-i-preserved
loop-i-preserved c = let x = c.args in let l = c.loop-i in
    let z = x.z in
    let d = spare_only x.spare.now in
    let order = c.requires.order_value in
    let inside : l.i < length x.order.now = omega arith in
    let bucket = get_or x.order.now l.i 0 in
    let value : c.old_back.result ≡ named z d (is_old_copy z d) bucket =
    rw (c.old_back.ensures, beside z d order l.i inside (is_chosen z d) c.requires.copies_value)
    (old_named z d c.requires.chip.limits (formed_of z d c.requires.spare_value) bucket (at_order z d order l.i inside)) in
    made_more (named z d (is_old_copy z d)) x.order.now x.out.now c.requires.out_len l.i l.invariant inside value

pub returns : goal.returns
returns c = let x = c.args in
    let f = named x.z (spare_only x.spare.now) (is_old_copy x.z (spare_only x.spare.now)) in
    made_end f x.order.now x.out.now c.requires.out_len c.loop-i.i c.loop-i.invariant (omega arith) ∙ ap (map f) c.requires.order_value

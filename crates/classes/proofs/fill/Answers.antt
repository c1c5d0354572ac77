use Rattle.classes.proofs.Orders.{order_below}
use Rattle.classes.proofs.Turns.{made_more, made_end}
use Rattle.classes.specs.Columns.{named, is_kind}
use Rattle.image.specs.Chip.{spare_only}
use mathlib.Core.List.{map}
use mathlib.Core.Path.{ap, ◌∙◌}
use native.Mathlib.Omega.{arith}
use Rattle.classes.proofs.fill.Goals as goal

pub named-requires : goal.named-requires
named-requires c = record {
  chip = c.requires.chip;
  spare_value = c.requires.spare_value;
  c_bound = order_below c.args.z (spare_only c.args.spare.now) c.requires.order_value c.loop-i.i (omega arith);
}

pub loop-i-preserved : goal.loop-i-preserved
loop-i-preserved c = let x = c.args in
    let f = named x.z (spare_only x.spare.now) (is_kind x.z (spare_only x.spare.now) x.kind) in
    made_more f x.order.now x.out.now c.requires.out_len c.loop-i.i c.loop-i.invariant (omega arith) c.named.ensures

pub returns : goal.returns
returns c = let x = c.args in
    let f = named x.z (spare_only x.spare.now) (is_kind x.z (spare_only x.spare.now) x.kind) in
    made_end f x.order.now x.out.now c.requires.out_len c.loop-i.i c.loop-i.invariant (omega arith) ∙ ap (map f) c.requires.order_value

use Rattle.model.proofs.RecoverChoice.{in_buckets, once_buckets}
use Rattle.order.proofs.Differ.{epochs_distinct}
use mathlib.Core.Path.{ap, ◌∙◌}
use Rattle.classes.proofs.Orders.{buckets-below}
use Rattle.image.specs.Chip.{spare_only}
use Rattle.model.specs.Recover.{buckets, by_epoch}
use Rattle.model.specs.Image.{used, epoch_of}
use Rattle.lists.specs.Lists.{sort_by}
use Rattle.classes.proofs.in_order.Goals as goal

pub by_epoch-requires : goal.by_epoch-requires
by_epoch-requires c = let z = c.args.z in let d = spare_only c.args.spare.now in
    record { chip = c.requires.chip; buckets_value = rw c.buckets-used.ensures (buckets-below z d (used z d)); buckets_value_2 = rw c.buckets-used.ensures (epochs_distinct z d c.requires.spare_value (buckets z d (used z d)) (once_buckets z d (used z d)) (λ x h. let p = in_buckets z d (used z d) x h in (p.1, p.0))) }

pub returns : goal.returns
unfolding by_epoch
returns c = let x = c.args in c.by_epoch.ensures ∙ ap (sort_by (epoch_of x.z (spare_only x.spare.now))) c.buckets-used.ensures

use Rattle.std.proofs.Common.{◌+◌, take, drop, append_assoc}
use Rattle.std.proofs.Math.Nat.{add-sub_cancel_left}
use Rattle.lists.specs.Lists.{part, splice}
use Rattle.lists.proofs.Parts.{length-part-fits}
use Rattle.area.proofs.move_within.Goals as goal

pub returns : goal.returns
unfolding part splice
returns c =
    let a = c.args in
    rw (c.copy_within.ensures.after, add-sub_cancel_left a.from a.count, length-part-fits a.area.now a.from a.count c.requires.count_in_bounds)
    (append_assoc (take a.to a.area.now) (take a.count (drop a.from a.area.now)) (drop (a.to + a.count) a.area.now))

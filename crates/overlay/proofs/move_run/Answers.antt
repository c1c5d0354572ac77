use Rattle.std.proofs.Common.{sym, ◌∙◌}
use Rattle.lists.proofs.Arrays.{empty-length}
use Rattle.lists.specs.Lists.{part}
use Rattle.overlay.specs.Runs.{moved_over}
use Rattle.overlay.proofs.move_run.Goals as goal

pub returns-in-Some : goal.returns-in-Some
unfolding moved_over
returns-in-Some c = rw c.in-Some.is c.move_within.ensures

pub returns-then-is_empty : goal.returns-then-is_empty
unfolding moved_over
returns-then-is_empty c =
    rw (c.in_default.is, empty-length c.args.under.now ∙ sym c.is_empty.ensures ∙ c.if-is_empty.true) c.move_within-then-is_empty.ensures

pub returns : goal.returns
unfolding moved_over part
returns c = rw (c.in_default.is, empty-length c.args.under.now ∙ sym c.is_empty.ensures ∙ c.if-is_empty.false) c.write_at.ensures

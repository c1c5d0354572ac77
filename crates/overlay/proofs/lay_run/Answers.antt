use Rattle.std.proofs.Common.{◌-◌, sym, ◌∙◌}
use Rattle.lists.proofs.Arrays.{empty-length}
use Rattle.lists.proofs.Lent.{lent_part}
use Rattle.lists.specs.Lists.{part}
use Rattle.overlay.specs.Runs.{lent_over}
use Rattle.overlay.proofs.lay_run.Goals as goal

pub returns-in-Some : goal.returns-in-Some
unfolding lent_over
returns-in-Some c = let a = c.args in rw (c.in-Some.is, ← lent_part a.flash.now c.in-Some.at (a.x - a.run.start)) c.write_at.ensures

pub returns-then-not-is_empty : goal.returns-then-not-is_empty
unfolding lent_over part
returns-then-not-is_empty c =
    rw (c.in_default.is, empty-length c.args.under.now ∙ sym c.is_empty.ensures ∙ c.if-not-is_empty.true) c.write_at-then-not-is_empty.ensures

pub returns-else-not-is_empty : goal.returns-else-not-is_empty
unfolding lent_over
returns-else-not-is_empty c = rw (c.in_default.is, empty-length c.args.under.now ∙ sym c.is_empty.ensures ∙ c.if-not-is_empty.false)

use Rattle.model.specs.Recover.{kept_read, kept_write}
use Rattle.model.specs.Image.{page_blank, blanks}
use Rattle.lists.proofs.Rows.{count_le}
use Rattle.image.specs.Chip.{spare_only}
use native.Mathlib.Omega.{arith}
use Rattle.recover.proofs.entry_of.Goals as goal

pub overflow_cast-blanks : goal.overflow_cast-blanks
unfolding blanks
overflow_cast-blanks c =
    let a = c.args in
    omega (arith, c.blanks-blanks.ensures, count_le a.z.p (page_blank a.z (spare_only a.spare.now) a.c), c.requires.chip.limits.p_high)

pub returns-then-counted : goal.returns-then-counted
unfolding kept_write
returns-then-counted c = rw (c.if-counted.true, c.entry.ensures, c.back_of-back.ensures, c.blanks-blanks.ensures)

pub returns-else-counted : goal.returns-else-counted
unfolding kept_read
returns-else-counted c = rw (c.if-counted.false, c.entry-else-counted.ensures, c.back_of-back.ensures)

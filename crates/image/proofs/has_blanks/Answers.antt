use Rattle.image.proofs.First.{blank_last, blank_none}
use Rattle.image.specs.Chip.{spare_only}
use Rattle.model.specs.Image.{blanks}
use Rattle.model.proofs.Buckets.{blanks_most}
use mathlib.Core.Path.{sym}
use native.Mathlib.Omega.{arith}
use borrow.Author.Tests.{ne_eqb}
use Rattle.image.proofs.has_blanks.Goals as goal

pub returns-then-z-n : goal.returns-then-z-n
returns-then-z-n c = let a = c.args in
    sym (ne_eqb a.n (blanks a.z (spare_only a.spare.now) a.c) (λ q. omega (arith, blanks_most a.z (spare_only a.spare.now) a.c)))

pub used_to-before-requires : goal.used_to-before-requires
used_to-before-requires c = let s = c in record { chip = s.requires.chip; c_lt_c = (s.requires.c_lt_c, omega arith); c_value = s.requires.c_value }

pub returns-then-n-eq0 : goal.returns-then-n-eq0
returns-then-n-eq0 c = let a = c.args in
    rw c.used_to-before.ensures (blank_none a.z.p _ a.n (blanks_most a.z (spare_only a.spare.now) a.c) c.if-n-eq0.true)

pub used_to-requires : goal.used_to-requires
used_to-requires c = let s = c in record { chip = s.requires.chip; c_lt_c = (s.requires.c_lt_c, omega arith); c_value = s.requires.c_value }

pub returns : goal.returns
returns c = let a = c.args in
    rw (c.used_to-before.ensures, c.used_to.ensures)
    (blank_last a.z.p _ a.n (blanks_most a.z (spare_only a.spare.now) a.c) (omega arith))

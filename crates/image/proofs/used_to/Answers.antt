use Rattle.image.proofs.First.{kind_to}
use Rattle.image.proofs.Place.{page_inside}
use Rattle.image.specs.Chip.{spare_only}
use Rattle.model.specs.Image.{blanks}
use Rattle.model.specs.Stores.{tag_of}
use Rattle.model.specs.Sizes.{page_index}
use mathlib.Core.Path.{◌≡◌, sym}
use Prim.Native.Nat.{◌-◌, ◌+◌}
use native.Mathlib.Omega.{arith}
use borrow.Author.Tests.{le-leb}
use Rattle.image.proofs.used_to.Goals as goal

pub returns-then-k-eq0 : goal.returns-then-k-eq0
returns-then-k-eq0 c = let a = c.args in
    sym (le-leb a.k (a.z.p - blanks a.z (spare_only a.spare.now) a.c) (omega arith))

pub overflow_mul-c : goal.overflow_mul-c
overflow_mul-c c = let s = c in omega (arith, page_inside {k = s.args.k - 1} s.requires.chip s.requires.c_lt_c.0 (omega (arith, s.requires.c_lt_c.1)))

pub overflow_add-c : goal.overflow_add-c
overflow_add-c c = let s = c in omega (arith, page_inside {k = s.args.k - 1} s.requires.chip s.requires.c_lt_c.0 (omega (arith, s.requires.c_lt_c.1)))

pub kind_at-requires : goal.kind_at-requires
kind_at-requires c = let s = c in page_inside {k = s.args.k - 1} s.requires.chip s.requires.c_lt_c.0 (omega (arith, s.requires.c_lt_c.1))

pub returns : goal.returns
unfolding tag_of page_index
returns c = let s = c in
    let a = s.args in
    let same : (a.k - 1) + 1 ≡ a.k = omega arith in
    rw c.kind_at.ensures (rw same at (kind_to a.z (spare_only a.spare.now) a.c (a.k - 1) s.requires.c_value (omega (arith, s.requires.c_lt_c.1))))

use mathlib.Core.Path.{refl, sym, ◌∙◌}
use native.Mathlib.Omega.{arith}
use Prim.Native.Nat.{ℕ, ◌<◌}
use lib.ListN.{length-take}
use lib.Seq.{take_all, get_or-take}
use Rattle.lists.proofs.Arrays.{tested_more, take-used}
use Rattle.lists.specs.Lists.{all}
use Rattle.model.specs.Sizes.{body}
use Rattle.model.specs.State.{all_blank}
use Rattle.image.specs.Chip.{spare_only}
use Rattle.state.proofs.Below.{bucket_below}
use Rattle.fits.proofs.free_blank.Goals as goal

pub loop-c-init : goal.loop-c-init
unfolding all
loop-c-init c = refl

pub all_blank-blank-requires-clause-c_bound : goal.all_blank-blank-requires-clause-c_bound
all_blank-blank-requires-clause-c_bound c = let q = c.args.free in let n = c.used.result in let i = c.loop-c.c-index in
    let within : i < n = omega (arith, length-take {A = ℕ}) in
    rw (get_or-take n q.items i 0 within)
    (bucket_below (body c.args.z) n q.items i (rw (take-used n q.len q.items c.used.ensures.0) c.requires.free_value) within (omega (arith, c.used.ensures.1)))

pub loop-c-preserved : goal.loop-c-preserved
loop-c-preserved c = let a = c.args in
    rw (c.loop-c.invariant, c.all_blank-blank.ensures) (sym (tested_more (all_blank a.z (spare_only a.spare.now)) c.loop-c.c-index _ 0 (omega arith)))

pub returns : goal.returns
returns c = let q = c.args.free in c.loop-c.invariant ∙ rw (take_all c.loop-c.c-index _ c.loop-c-test.false, take-used c.used.result q.len q.items c.used.ensures.0)

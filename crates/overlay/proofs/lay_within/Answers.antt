use Rattle.overlay.proofs.Found.{ends_less}
use Rattle.overlay.proofs.Woven.{tagged_of, moves, moved-step}
use Rattle.geometry.proofs.Places.{nth_inside}
use Rattle.geometry.proofs.Passed.{products}
use Rattle.model.specs.Sizes.{bucket_size}
use Rattle.lists.proofs.Splices.{splice-none}
use Rattle.lists.specs.Lists.{part}
use native.Mathlib.Nat.{le_refl, add-zero, sub-zero}
use native.Mathlib.Omega.{arith}
use mathlib.Core.Path.{◌≡◌, refl, sym}
use Prim.Native.Nat.{◌+◌, ◌-◌, ◌*◌}
use Rattle.overlay.proofs.lay_within.Goals as goal

pub overflow_mul-size : goal.overflow_mul-size
overflow_mul-size c = omega (arith, (products c.requires.readable.limits).bucket)

pub overflow_mul-to : goal.overflow_mul-to
overflow_mul-to c = let start = c in omega (arith, nth_inside start.args.target start.args.z.c (start.args.z.p * start.args.z.s) start.requires.target_lt_c.0, (products start.requires.readable.limits).flash)

pub overflow_mul-under_at : goal.overflow_mul-under_at
overflow_mul-under_at c = let start = c in omega (arith, nth_inside start.args.base start.args.z.c (start.args.z.p * start.args.z.s) start.requires.target_lt_c.1, (products start.requires.readable.limits).flash)

pub newest_pages-newest-requires : goal.newest_pages-newest-requires
newest_pages-newest-requires c = let start = c in record { tagged = tagged_of start.requires.readable; list_value = start.requires.list_value }

pub loop-x-init : goal.loop-x-init
unfolding part
loop-x-init c = let a = c.args in
    let none : a.n - a.n ≡ 0 = omega arith in (
      le_refl a.n,
      refl,
      λ some. c.newest_pages-newest.ensures a.n some,
      rw none (sym (splice-none a.flash.now (a.target * bucket_size a.z + a.n))),
    )

pub newest_live-newest-requires : goal.newest_live-newest-requires
newest_live-newest-requires c = let start = c in record { tagged = tagged_of start.requires.readable; list_value = start.requires.list_value; ends_by = c.loop-x.invariant.2 }

pub run_at-run-requires : goal.run_at-run-requires
run_at-run-requires c = let start = c in
    record { tagged = tagged_of start.requires.readable; list_value = start.requires.list_value; ends_by = c.newest_live-newest.ensures; from_lt_x = (c.loop-x-test.true, omega (arith, c.loop-x.invariant.0, start.requires.target_lt_c.2)) }

pub move_run-requires : goal.move_run-requires
unfolding bucket_size
move_run-requires c = let start = c in
    let p = start.requires in
    let l = c.loop-x in
    moves p.readable start.args.list.now p.list_value start.args.under.now p.target_lt_c.0 p.target_lt_c.1 p.target_lt_c.2 p.aside l.invariant.0 c.run_at-run.ensures l.flash l.invariant.1

pub loop-x-smaller : goal.loop-x-smaller
loop-x-smaller c = omega (arith, c.run_at-run.ensures.some)

pub loop-x-preserved : goal.loop-x-preserved
unfolding bucket_size
loop-x-preserved c = let start = c in
    let p = start.requires in
    let l = c.loop-x in
    let runs = c.run_at-run.ensures in (
      omega (arith, runs.some, l.invariant.0),
      omega (arith, c.flash-1.given, l.invariant.1),
      λ some. ends_less c.run_at-run.result.start (omega (arith, runs.some)) (c.newest_live-newest.ensures some),
      rw c.move_run.ensures
          (moved-step p.readable start.args.list.now p.list_value start.args.under.now p.target_lt_c.0 p.target_lt_c.1 p.target_lt_c.2 p.aside l.invariant.0 runs l.invariant.3),
    )

pub shape_of-flash : goal.shape_of-flash
shape_of-flash c = let l = c.loop-x in omega (arith, l.invariant.1)

pub returns : goal.returns
unfolding part
returns c = let l = c.loop-x in
    let a = c.args in
    let none : l.x ≡ 0 = omega (arith, c.loop-x-test.false) in
    rw (none, add-zero (a.target * bucket_size a.z), sub-zero a.n) at l.invariant.3

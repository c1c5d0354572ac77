use Prim.Native.Nat.{◌+◌, ◌≤◌, ◌<◌}
use mathlib.Core.Path.{◌≡◌, ◌∙◌}
use native.Mathlib.Omega.{arith}
use Rattle.geometry.specs.Geometry.{device}
use Rattle.rescue.specs.Sources.{rescues}
use Rattle.rescue.proofs.Bytes.{readable_of}
use Rattle.classes.proofs.SameSpare.{same-rescued}
use Rattle.rescue.proofs.Reached.{next_high, next_low, next_rescued, none_between, reached_first, reached_more}
use Rattle.rescue.proofs.rescue_each.Goals as goal

pub loop-b-init : goal.loop-b-init
loop-b-init c =
    let a = c.args in
    let disk = a.disk.now in
    let readable = readable_of c.requires.recoverable in
    let unwritten = c.requires.unwritten_value in
    let e = c.next_of-b.ensures in
    let none : 0 ≤ a.z.b = omega arith in (
      next_high readable disk unwritten 0 e,
      c.requires.recoverable.lent.disk_length,
      reached_first a.z a.flash.now a.spare.now disk a.meter c.next_of-b.result (none_between readable disk unwritten 0 e none),
      next_rescued readable disk unwritten 0 e,
    )

pub rescue_one-left-requires-clause-b_lt_b : goal.rescue_one-left-requires-clause-b_lt_b
rescue_one-left-requires-clause-b_lt_b c =
    let a = c.args in
    let l = c.loop-b in
    let here = c.loop-b-test.true in
    (here, same-rescued a.z (device a.flash.now a.spare.now a.disk.now) l.b ∙ l.invariant.3 here)

pub loop-b-smaller : goal.loop-b-smaller
loop-b-smaller c =
    let a = c.args in
    let l = c.loop-b in
    let here : l.b < a.z.b = c.loop-b-test.true in
    let in_reach : l.b + 1 ≤ a.z.b = omega arith in
    omega (arith, next_low (readable_of c.requires.recoverable) a.disk.now c.requires.unwritten_value (l.b + 1) c.next_of-b-in-loop-b.ensures in_reach)

pub loop-b-preserved : goal.loop-b-preserved
loop-b-preserved c =
    let a = c.args in
    let disk = a.disk.now in
    let l = c.loop-b in
    let readable = readable_of c.requires.recoverable in
    let unwritten = c.requires.unwritten_value in
    let n = c.next_of-b-in-loop-b.result in
    let e = c.next_of-b-in-loop-b.ensures in
    let one = c.rescue_one-left.ensures in
    let here : l.b < a.z.b = c.loop-b-test.true in
    let in_reach : l.b + 1 ≤ a.z.b = omega arith in
    let later : l.b < n = omega (arith, next_low readable disk unwritten (l.b + 1) e in_reach) in
    let none = none_between readable disk unwritten (l.b + 1) e in_reach in (
      next_high readable disk unwritten (l.b + 1) e,
      one.disk_len,
      reached_more a.z a.flash.now a.spare.now disk a.meter readable l.b n l.disk _ l.left c.rescue_one-left.result l.invariant.2 here (l.invariant.3 here) l.invariant.1 one.result_after later none,
      next_rescued readable disk unwritten (l.b + 1) e,
    )

pub returns-clause-result_after : goal.returns-clause-result_after
unfolding rescues
returns-clause-result_after c =
    let end : c.loop-b.b ≡ c.args.z.b = omega arith in
    rw end at c.loop-b.invariant.2.run_is

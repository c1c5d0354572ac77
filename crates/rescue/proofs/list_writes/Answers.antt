use Rattle.rescue.proofs.Places.{listed_passed, listed_next, listed_last}
use Rattle.lists.proofs.Arrays.{written}
use lib.ListN.{length, take, get_or, length-set}
use native.Mathlib.Omega.{arith}
use mathlib.Core.List.{[], ◌∷◌, ◌++◌}
use mathlib.Core.Path.{refl, sym, ◌∙◌}
use Prim.Native.Nat.{◌<◌}
use Rattle.rescue.proofs.list_writes.Goals as goal

pub loop-at-init : goal.loop-at-init
loop-at-init c =
    let a = c.args in
    let found = c.next_index-at.ensures in
    (found.0.high, omega arith, refl, found.1, sym (listed_passed a.b a.writes.now a.order.now c.requires.writes_len [] found.0))

pub loop-at-preserved : goal.loop-at-preserved
loop-at-preserved c =
    let a = c.args in
    let q = c.requires in
    let l = c.loop-at in
    let found = c.next_index-at-in-loop-at.ensures in
    let here : l.at < length a.writes.now = c.loop-at-test.true in
    let room : l.count < length l.list = omega (arith, here, l.invariant.1, l.invariant.2, q.writes_len, q.order_in_bounds) in
    let front = take l.count l.list in
    let bucket = get_or a.order.now l.at 0 in (
      found.0.high,
      omega (arith, found.0.low, l.invariant.1),
      simp length-set l.invariant.2,
      found.1,
      rw (written l.count l.list bucket room)
          (sym (listed_passed a.b a.writes.now a.order.now q.writes_len (front ++ (bucket ∷ [])) found.0)
          ∙ sym (listed_next a.b a.writes.now a.order.now q.writes_len front l.at here (l.invariant.3 here)) ∙ l.invariant.4),
    )

pub returns : goal.returns
returns c =
    let a = c.args in
    let q = c.requires in
    let l = c.loop-at in (
      omega (arith, l.invariant.0, l.invariant.1, q.writes_len, q.order_in_bounds),
      sym (listed_last a.b a.writes.now a.order.now q.writes_len (take l.count l.list) l.at (omega (arith, c.loop-at-test.false))) ∙ l.invariant.4,
    )

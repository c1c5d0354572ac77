use mathlib.Core.Path.{◌≡◌, refl, ap, ◌∙◌}
use Prim.Native.Nat.{ℕ, ◌+◌}
use native.Mathlib.Omega.{arith}
use Rattle.model.specs.Operations.{unclean, drain}
use Rattle.geometry.specs.Geometry.{device, Lent}
use Rattle.model.specs.declared.Sizes.{Sizes}
use Rattle.model.specs.Sizes.{disk_size}
use lib.ListN.{length}
use mathlib.Core.List.{List}
use Rattle.meter.specs.Run.{running}
use Rattle.state.specs.View.{places_of}
use Rattle.order.proofs.Next.{next}
use Rattle.gather.proofs.Gathered.{sources_of}
use Rattle.drain.proofs.Stores.{stores_to, next_unclean, stores_start, stores_more}
use Rattle.drain.proofs.Ahead.{stores_ahead, ahead_more}
use Rattle.drain.proofs.write_listed.Goals as goal

-- the areas, with the disk as it is now
lent_now : {z : Sizes} {flash spare before : List ℕ} (disk : List ℕ) → Lent z flash spare before → length disk ≡ disk_size z
    → Lent z flash spare disk
lent_now disk lent e = record { flash_length = lent.flash_length; spare_length = lent.spare_length; disk_length = e }

pub next_of-b-requires : goal.next_of-b-requires
next_of-b-requires c = (omega arith, omega (arith, c.requires.listed.drains.orderly.limits.b_high))

pub loop-b-init : goal.loop-b-init
loop-b-init c = let a = c.args in
    let s = places_of a.s in
    let z = s.sizes in
    let d = device a.flash.now a.spare.now a.disk.now in
    let listed = a.backs.now in
    let n = c.next_of-b.ensures in (
      omega (arith, n, (next 0 z.b listed).high),
      c.requires.lent.disk_length,
      λ h. ap (unclean z d s) n ∙ next_unclean z d s listed c.requires.listed.listed 0 (omega (arith, n)),
      rw n (stores_start z d s listed c.requires.listed.listed (running a.flash.now a.spare.now a.disk.now a.meter)),
      record { same = λ x h. refl },
    )

pub overflow_cast-b : goal.overflow_cast-b
overflow_cast-b c = omega (arith, c.requires.listed.drains.orderly.limits.b_high)

pub write_merged-left-requires : goal.write_merged-left-requires
write_merged-left-requires c = let drains = c.requires.listed.drains in
    sources_of drains.orderly drains.body_formed c.loop-b-test.true (lent_now _ c.requires.lent c.loop-b.invariant.1)

pub overflow_add-b : goal.overflow_add-b
overflow_add-b c = omega (arith, c.loop-b-test.true, c.requires.listed.drains.orderly.limits.b_high)

pub next_of-b-requires-in-loop-b : goal.next_of-b-requires-in-loop-b
next_of-b-requires-in-loop-b c = let high = c.requires.listed.drains.orderly.limits.b_high in
    (omega (arith, high, c.loop-b-test.true), omega (arith, high))

pub loop-b-smaller : goal.loop-b-smaller
loop-b-smaller c = let a = c.args in
    let h = c.loop-b-test.true in
    omega (arith, c.next_of-b-in-loop-b.ensures, h, (next (c.loop-b.b + 1) a.s.sizes.b a.backs.now).low (omega arith))

pub loop-b-preserved : goal.loop-b-preserved
loop-b-preserved c = let drains = c.requires.listed.drains in
    let sources = sources_of drains.orderly drains.body_formed c.loop-b-test.true (lent_now _ c.requires.lent c.loop-b.invariant.1) in
    let a = c.args in
    let l = c.loop-b in
    let h = c.loop-b-test.true in
    let w = c.write_merged-left.ensures in
    let n = c.next_of-b-in-loop-b.ensures in
    let s = places_of a.s in
    let z = s.sizes in
    let d = device a.flash.now a.spare.now a.disk.now in
    let first = running a.flash.now a.spare.now a.disk.now a.meter in
    let listed = a.backs.now in
    let after = next (l.b + 1) z.b listed in (
      omega (arith, n, after.high),
      w.disk_len,
      λ g. ap (unclean z d s) n ∙ next_unclean z d s listed c.requires.listed.listed (l.b + 1) (omega (arith, n)),
      rw (n, w.result_after, stores_ahead s l.invariant.4, l.invariant.3) (stores_more z d s listed c.requires.listed.listed l.b first h (l.invariant.2 h)),
      ahead_more l.left sources w.result_after l.invariant.4 _ (omega (arith, n, after.low (omega arith))),
    )

pub shape_of-disk : goal.shape_of-disk
shape_of-disk c = omega (arith, c.loop-b.invariant.1, c.requires.lent.disk_length)

pub returns : goal.returns
unfolding drain stores_to
returns c = let l = c.loop-b in
    let e : l.b ≡ c.args.s.sizes.b = omega arith in
    record { result_after = rw e at l.invariant.3; disk_len = l.invariant.1 }

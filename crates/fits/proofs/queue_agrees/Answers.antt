use mathlib.Core.Path.{refl, sym, ◌∙◌}
use native.Mathlib.Omega.{arith}
use Prim.Native.Nat.{◌<◌}
use lib.ListN.{length-take}
use lib.Seq.{take_all, get_or-take}
use Rattle.lists.proofs.Arrays.{tested_more, take-used}
use Rattle.lists.specs.Lists.{all}
use Rattle.model.specs.declared.Entry.{Entry}
use Rattle.model.specs.Sizes.{body}
use Rattle.model.proofs.Limits.{on_chip}
use Rattle.fits.specs.Fits.{agrees}
use Rattle.image.specs.Chip.{spare_only}
use Rattle.image.proofs.First.{formed_bucket}
use Rattle.queue.specs.View.{no_entry}
use Rattle.state.proofs.Below.{cache_below}
use Rattle.fits.proofs.queue_agrees.Goals as goal

pub loop-e-init : goal.loop-e-init
unfolding all
loop-e-init c = refl

pub entry_agrees-agree-requires : goal.entry_agrees-agree-requires
entry_agrees-agree-requires c = let a = c.args in let q = a.queue in let n = c.used.result in let i = c.loop-e.e-index in
    let within : i < n = omega (arith, length-take {A = Entry}) in
    let below = cache_below (body a.z) n q.items i (rw (take-used n q.len q.items c.used.ensures.0) c.requires.queue_value) within (omega (arith, c.used.ensures.0, length-take {A = Entry})) in
    rw (get_or-take n q.items i no_entry within)
    (record { chip = c.requires.chip; cache_lt_c = on_chip a.z _ below; cache_value = formed_bucket a.z (spare_only a.spare.now) c.requires.spare_value _ below })

pub loop-e-preserved : goal.loop-e-preserved
loop-e-preserved c = let a = c.args in
    rw (c.loop-e.invariant, c.entry_agrees-agree.ensures) (sym (tested_more (agrees a.z (spare_only a.spare.now) a.written) c.loop-e.e-index _ no_entry (omega arith)))

pub returns : goal.returns
returns c = let q = c.args.queue in c.loop-e.invariant ∙ rw (take_all c.loop-e.e-index _ c.loop-e-test.false, take-used c.used.result q.len q.items c.used.ensures.0)

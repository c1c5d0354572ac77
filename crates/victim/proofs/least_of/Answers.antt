use Rattle.std.proofs.Common.{◌<◌, true, false, length, refl, sym, ◌∙◌, arith, drop_of_length-le}
use Rattle.model.specs.Operations.{least_of}
use Rattle.image.specs.Chip.{spare_only}
use Rattle.victim.proofs.Laws.{cache_at, least_step}
use Rattle.victim.proofs.least_of.Goals.{then-goes_first, else-goes_first}
use Rattle.victim.proofs.least_of.Goals as goal

pub loop-e-init : goal.loop-e-init
loop-e-init c = (c.requires.on_chip.0, refl)

pub goes_first-requires-clause-cache_lt_c : goal.goes_first-requires-clause-cache_lt_c
goes_first-requires-clause-cache_lt_c c = let l = c.loop-e in
    (cache_at c.args.z.c c.args.rest.now l.e-index c.requires.on_chip.1 (omega arith), l.invariant.0)

pub loop-e-preserved : goal.loop-e-preserved
loop-e-preserved c = let l = c.loop-e in
    let a = c.args in
    let here : l.e-index < length a.rest.now = omega arith in
    elim c.if-goes_first.branch [
      | then-goes_first w ↦ rw w.least-is (cache_at a.z.c a.rest.now l.e-index c.requires.on_chip.1 here, l.invariant.1 ∙ least_step a.z (spare_only a.spare.now) l.least l.e-index a.rest.now here true (sym c.goes_first.ensures ∙ w.if-goes_first.true))
      | else-goes_first w ↦ rw w.least-is (l.invariant.0, l.invariant.1 ∙ least_step a.z (spare_only a.spare.now) l.least l.e-index a.rest.now here false (sym c.goes_first.ensures ∙ w.if-goes_first.false))
    ]

pub returns : goal.returns
unfolding least_of
returns c = let l = c.loop-e in
    sym (l.invariant.1 ∙ rw (drop_of_length-le c.args.rest.now {i = l.e-index} (omega arith)))

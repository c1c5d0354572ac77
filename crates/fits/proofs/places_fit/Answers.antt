use mathlib.Core.Bool.{true, false}
use mathlib.Core.Path.{◌≡◌, sym, ◌∙◌}
use Rattle.lists.proofs.Tests.{every_at}
use Rattle.model.specs.Sizes.{body}
use Rattle.model.specs.State.{queued, each_once}
use Rattle.image.specs.Chip.{spare_only}
use Rattle.ledger.proofs.Pages.{formed_body}
use Rattle.state.specs.View.{places_of}
use Rattle.fits.proofs.Parts.{parts}
use Rattle.fits.proofs.places_fit.Goals as goal

pub returns-then-not-buckets_once : goal.returns-then-not-buckets_once
returns-then-not-buckets_once c = let s = places_of c.args.s in
    let e : each_once (body s.sizes) (queued s) ≡ false = sym c.buckets_once.ensures ∙ c.if-not-buckets_once.true in
    rw (parts s (spare_only c.args.spare.now), e)

pub tags_agree-tags-requires : goal.tags_agree-tags-requires
unfolding each_once
tags_agree-tags-requires c = let o = c in let s = places_of o.args.s in
    let e : each_once (body s.sizes) (queued s) ≡ true = sym c.buckets_once.ensures ∙ c.if-not-buckets_once.false in
    record { chip = o.requires.chip; spare_value = formed_body s.sizes (spare_only o.args.spare.now) o.requires.spare_value; s_value = every_at _ e 1 }

pub returns : goal.returns
returns c = let start = c in
    let s = places_of start.args.s in
    let e : each_once (body s.sizes) (queued s) ≡ true = sym c.buckets_once.ensures ∙ c.if-not-buckets_once.false in
    rw (parts s (spare_only start.args.spare.now), e, c.one_in_use.ensures, c.marks_fit-marks.ensures, c.numbers_fit-numbers.ensures, c.tags_agree-tags.ensures, c.queues_fit-queues.ensures)

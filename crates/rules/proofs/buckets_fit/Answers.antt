use Rattle.rules.proofs.Buckets.{span_more, span_stops}
use Rattle.rules.specs.Pages.{fits_from}
use Rattle.image.specs.Chip.{spare_only}
use Rattle.model.specs.Image.{bucket_fits}
use Rattle.model.specs.Sizes.{body}
use Rattle.lists.specs.Lists.{all_below}
use mathlib.Core.Path.{◌≡◌, refl, sym, ap, ◌∙◌}
use Prim.Native.Nat.{ℕ, ◌-◌}
use native.Mathlib.Omega.{arith}
use Rattle.rules.proofs.buckets_fit.Goals as goal

pub loop-bucket-init : goal.loop-bucket-init
unfolding all_below
loop-bucket-init c = (omega arith, refl)

pub span_end-e-requires : goal.span_end-e-requires
span_end-e-requires c = let o = c in record { chip = o.requires; c_bound = omega arith }

pub span_fits-requires : goal.span_fits-requires
span_fits-requires c = record { chip = c.requires; span = c.span_end-e.ensures }

pub returns-then-not-span_fits : goal.returns-then-not-span_fits
unfolding fits_from
returns-then-not-span_fits c = let a = c.args in let s = c.span_end-e in let l = c.loop-bucket in
    let rest = all_below (s.result - l.bucket) (fits_from a.z (spare_only a.spare.now) l.bucket) in
    sym (span_stops (body a.z) (bucket_fits a.z (spare_only a.spare.now)) l.bucket s.result (omega (arith, s.ensures.some)) s.ensures.within
    (◌∙◌ {a = rest} (sym {b = rest} c.span_fits.ensures) (c.if-not-span_fits.true)))

pub loop-bucket-smaller : goal.loop-bucket-smaller
loop-bucket-smaller c = omega (arith, c.span_end-e.ensures.some)

pub loop-bucket-preserved : goal.loop-bucket-preserved
unfolding fits_from
loop-bucket-preserved c = let a = c.args in let s = c.span_end-e in let l = c.loop-bucket in
    let rest = all_below (s.result - l.bucket) (fits_from a.z (spare_only a.spare.now) l.bucket) in (
      omega (arith, s.ensures.within),
      span_more (body a.z) (bucket_fits a.z (spare_only a.spare.now)) l.bucket s.result (omega (arith, s.ensures.some)) l.invariant.1
          (◌∙◌ {a = rest} (sym {b = rest} c.span_fits.ensures) (c.if-not-span_fits.false)),
    )

pub returns : goal.returns
returns c = let a = c.args in let l = c.loop-bucket in
    let e : l.bucket ≡ body a.z = omega arith in
    sym (ap (λ (n : ℕ). all_below n (bucket_fits a.z (spare_only a.spare.now))) (sym e) ∙ l.invariant.1)

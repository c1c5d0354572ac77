use Prim.Native.Nat.{◌*◌, ℕ, ◌+◌, ◌-◌, ◌≤◌}
use lib.ListN.{length}
use Rattle.rules.proofs.Buckets.{span_one, span_split, span_inside}
use Rattle.rules.specs.Pages.{Span, fits_from}
use mathlib.Core.List.{List}
use Rattle.model.specs.declared.Sizes.{Sizes}
use Rattle.image.specs.Chip.{Chip, spare_only}
use Rattle.model.specs.Image.{bucket_fits}
use Rattle.lists.specs.Lists.{all_below}
use mathlib.Core.Path.{◌≡◌, sym, ap, ◌∙◌}
use native.Mathlib.Omega.{arith}
use Rattle.rules.proofs.span_fits.Goals as goal

module _ {z : Sizes} {spare : List ℕ} {c e : ℕ} (chip : Chip z spare) (span : Span z (spare_only spare) c e) where
  inside : (c * z.p + (e - c) * z.p) * 16 ≤ length spare
  inside = span_inside chip c e (omega (arith, span.some)) (omega (arith, span.within, chip.limits.ledger_in))

-- a bucket by itself
one : (z : Sizes) (spare : List ℕ) (c : ℕ) {e : ℕ} → e ≡ c + 1
    → all_below (e - c) (fits_from z (spare_only spare) c) ≡ bucket_fits z (spare_only spare) c
one z spare c {e} h =
    let n : e - c ≡ 1 = omega (arith, h) in
    ap (λ (m : ℕ). all_below m (fits_from z (spare_only spare) c)) n ∙ span_one z spare c

pub returns-then-plainly_fits : goal.returns-then-plainly_fits
returns-then-plainly_fits c = sym (one c.args.z c.args.spare.now c.args.c c.if-e-c.true ∙ c.plainly_fits.ensures c.if-plainly_fits.true)

pub returns-then-e-c : goal.returns-then-e-c
returns-then-e-c c = c.pages_fit.ensures ∙ sym (one c.args.z c.args.spare.now c.args.c c.if-e-c.true)

pub overflow_mul-c : goal.overflow_mul-c
overflow_mul-c c = omega (arith, inside c.requires.chip c.requires.span)

pub overflow_mul-e : goal.overflow_mul-e
overflow_mul-e c = omega (arith, inside c.requires.chip c.requires.span)

pub are_blank-requires : goal.are_blank-requires
are_blank-requires c = inside c.requires.chip c.requires.span

pub returns : goal.returns
returns c = let a = c.args in let s = c.requires.span in
    c.are_blank.ensures ∙ span_split a.z a.spare.now a.c (a.e - a.c) (λ j h. s.erased c.if-e-c.false (a.c + j) (omega arith) (omega (arith, s.some)))

use borrow.Author.Rules.{rules}
use borrow.Author.Tests.{tests}
use native.Mathlib.Omega.{arith}
use Rattle.lists.proofs.Rows.{all-below}
use Rattle.image.specs.Chip.{spare_only}
use Rattle.image.proofs.First.{head-blank}
use Rattle.model.specs.Image.{bucket_fits, head_tag, used, epoch_of, body_fits}
use Rattle.model.proofs.Limits.{on_chip}
use Rattle.model.specs.Sizes.{body}
use Rattle.model.specs.Spare.{blank, kind}
use lib.Dec.{eqb}
use Prim.Native.Nat.{◌<◌}
use mathlib.Core.Path.{◌≡◌, sym, ◌∙◌}
use Rattle.rules.proofs.body_fits.Goals as goal

pub returns-then-not-buckets_fit : goal.returns-then-not-buckets_fit
unfolding body_fits
returns-then-not-buckets_fit c = rw (sym c.buckets_fit.ensures ∙ c.if-not-buckets_fit.true)

pub epochs_differ-requires-clause-callable : goal.epochs_differ-requires-clause-callable
epochs_differ-requires-clause-callable c = let z = c.args.z in let d = spare_only c.args.spare.now in
    let fits = all-below (body z) (bucket_fits z d) (sym c.buckets_fit.ensures ∙ c.if-not-buckets_fit.false) in
    λ k h.
    let inside : k < body z = omega (arith, c.body.ensures) in
    let on : k < z.c = on_chip z k inside in
    let headed : blank (head_tag z d k) ≡ eqb (kind (head_tag z d k)) 255 = head-blank z d k c.requires.limits.p_low (fits k inside) in
    search (rules, on, headed)

pub returns : goal.returns
unfolding body_fits
returns c = let z = c.args.z in let d = spare_only c.args.spare.now in
    rw (sym c.buckets_fit.ensures ∙ c.if-not-buckets_fit.false) (rw c.body.ensures at (c.epochs_differ.ensures (used z d) (epoch_of z d) (λ k r h e. search (rules, tests))))
